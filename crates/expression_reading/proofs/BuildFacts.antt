-- The states of the builder, which makes the tree of an expression while the bytes of a word are read from left to right.
use Rattle.std.proofs.Common.{◌≡◌, ℕ, zero, suc, ◌*◌, ◌≤◌, List, [], ◌∷◌, ◌++◌, length, refl, arith, Option, None, Some, IsSome, option_map}
use Rattle.sym_model.specs.Partition.{Falls, size, rows, without_last_zeros, in_front}
use Rattle.sym_model.proofs.Parts.{length-without_last_zeros, size-in_front}
use Rattle.expression_laws.specs.LeftToRight.{Opened, outermost, inside, BeforeTerm, BeforeFactor, at, join, Piece, found, factor_found}
use Rattle.expression_reading.specs.declared.builder.Frame.{Frame}
use Rattle.expression_reading.specs.Building.{Built, builds, terms_in, factors_in, opened_from, AreEntries}
use Rattle.sym_model.specs.Bounded.{AreAtMost}

-- a frame is the text before an open parenthesis; a frame appended to the list of frames is one more open parenthesis, inside those opened before
pub opened_snoc : (o : Opened Built) (fs : List Frame) (f : Frame) → opened_from o (fs ++ f ∷ []) ≡ inside (opened_from o fs) (terms_in f.terms) (factors_in f.factors)
opened_snoc o [] f = refl
opened_snoc o (g ∷ fs) f = opened_snoc (inside o (terms_in g.terms) (factors_in g.factors)) fs f

size-within : (ns : List ℕ) → AreAtMost 20 ns → size (without_last_zeros ns) ≤ 20 * length ns
size-within [] h = omega arith
size-within (n ∷ ns) h = omega (arith, size-in_front n (without_last_zeros ns), size-within ns h.1, h.0)

pub few_rows : (ns : List ℕ) → AreEntries ns → rows (without_last_zeros ns) ≤ 512
few_rows ns h = omega (arith, length-without_last_zeros ns, h.few)

pub small_size : (ns : List ℕ) → AreEntries ns → size (without_last_zeros ns) ≤ 4096
small_size ns h = omega (arith, size-within ns h.low, h.few)

pub last_at_most : (b : ℕ) (ns : List ℕ) (n : ℕ) → AreAtMost b (ns ++ n ∷ []) → n ≤ b
last_at_most b [] n h = h.0
last_at_most b (m ∷ ns) n h = last_at_most b ns n h.1

abbrev HeadAtMost : ℕ → List ℕ → Type 0
HeadAtMost n [] = Unit {0}
HeadAtMost n (b ∷ xs) = b ≤ n

head-in_front : (n m : ℕ) (xs : List ℕ) → m ≤ n → HeadAtMost n (in_front m xs)
head-in_front n zero [] h = tt
head-in_front n zero (b ∷ xs) h = h
head-in_front n (suc m) xs h = h

Falls-in_front : (n : ℕ) (xs : List ℕ) → Falls xs → HeadAtMost n xs → Falls (in_front n xs)
Falls-in_front zero [] f h = tt
Falls-in_front zero (b ∷ xs) f h = (h, f)
Falls-in_front (suc n) [] f h = tt
Falls-in_front (suc n) (b ∷ xs) f h = (h, f)

Falls-cut : (ns : List ℕ) → Falls ns → Falls (without_last_zeros ns)
Falls-cut [] f = tt
Falls-cut (n ∷ []) f = Falls-in_front n [] tt tt
Falls-cut (n ∷ m ∷ ns) f =
    Falls-in_front n (without_last_zeros (m ∷ ns)) (Falls-cut (m ∷ ns) f.1) (head-in_front n m (without_last_zeros ns) f.0)

pub falls_cut : (ns : List ℕ) → AreEntries ns → Falls (without_last_zeros ns)
falls_cut ns h = Falls-cut ns h.falls

-- if an expression can end at a state, and its result is e, then the factor at its end has a result, and joining that result to the text before the
-- factor gives e
pub found-joined : (p : Piece Built ℕ) (t : BeforeTerm Built) (f : BeforeFactor Built) (o : Opened Built) (e : Built)
    → found builds (at p t f o) ≡ Some e → option_map (join builds t f) (factor_found builds p) ≡ Some e
found-joined p t f outermost e h = h
found-joined p t f (inside o t' f') e h = cc

joined-factor : (t : BeforeTerm Built) (f : BeforeFactor Built) (x : Option Built) (e : Built) → option_map (join builds t f) x ≡ Some e → IsSome x
joined-factor t f None e h = cc
joined-factor t f (Some x) e h = refl

pub found-factor : (p : Piece Built ℕ) (t : BeforeTerm Built) (f : BeforeFactor Built) (o : Opened Built) (e : Built)
    → found builds (at p t f o) ≡ Some e → IsSome (factor_found builds p)
found-factor p t f o e h = joined-factor t f (factor_found builds p) e (found-joined p t f o e h)
