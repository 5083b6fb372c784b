-- Monk's rule for a list that increases at two neighbouring places follows from the rule for the list with these two letters exchanged. The
-- polynomial of a list w is `schubert_over g w`, which is computed from any given polynomial g by divided differences. The factor on the left side of
-- the rule is a variable plus a polynomial that commutes with divided differences: 0 for Schubert polynomials, and -y_a, a being a letter, for double
-- Schubert polynomials. The pairing of a function φ with a polynomial is the sum of c·φ(α) over the terms c·x^α of the polynomial.
--     value g φ w r b     the term of place b, paired with φ: if w with the letters at r and b swapped is a cover of w, the
--                         polynomial of this cover, with the sign + if b is after r and - if b is before r; otherwise 0
--     IsMonk g c w r      Monk's rule for x_r, as an equation of pairings
--     monk_step           the rule for a list, from the rule for the list with two neighbours exchanged
use Rattle.std.proofs.Common.{◌≡◌, ℕ, zero, suc, ◌<◌, ◌≤◌, List, [], ◌∷◌, length, get_or, refl, sym, ◌∙◌, ap, ap₂, subst, arith, inl, inr, ◌⊎◌, cond, nat_lt, ◌==◌, Bool, ℤ, pos, ◌+ℤ◌, neg_ℤ, eq-eqb, eqb-true, rules}
use Rattle.std.proofs.lemmas.Int.{ints}
use Rattle.std.proofs.lemmas.Bool.{cases_eq, cases_lt, lt-ltb, ne_eqb, le-ltb}
use lib.IntN.{+ℤ_idr}
use Rattle.sym_model.specs.Sum.{Once}
use Rattle.sym_model.specs.Polynomial.{Poly, Same, In, plus, times, pair, join}
use Rattle.sym_model.specs.BetaList.{rising_pairs}
use Rattle.sym_model.specs.DividedDifference.{differences_after}
use Rattle.sym_model.specs.Schubert.{schubert_over}
use Rattle.sym_model.proofs.Exponents.{tests_agree}
use Rattle.sym_model.proofs.Polynomials.{pair_ext, pair_in, pair_add, pair_opposite, pair_zero, pair_plus, pair_times, pair_determined, times_respects, Same_refl}
use Rattle.schubert_laws.proofs.Climbs.{climb, across, stepped, across_ext, across_stepped}
use Rattle.schubert_laws.proofs.Differences.{along, pair_differences, along_square}
use Rattle.schubert_laws.proofs.Exchanges.{exchange_at, raise, Rises, rises_within, rising_pairs_exchange, exchange_twice, length-exchange_at}
use Rattle.schubert_laws.proofs.DifferenceLaws.{variable_after, pair_variable_times}
use Rattle.schubert_laws.proofs.Paths.{any_ascent}
use Rattle.schubert_laws.proofs.FixedLetters.{In_descended}
use Rattle.schubert_laws.proofs.Swaps.{swap_at, moved, swap_at_sym, length-swap_at, moved_within, moved_order, get_moved, exchange_swap, swap_neighbour, raises, lowers, once_swap}
use Rattle.schubert_laws.proofs.PlaceSums.{sum_below, sum_below_ext, sum_below_add, sum_below_only, sum_below_moved}
use Rattle.std.proofs.Math.Arith.{lt_of_le-ne}

-- ---- the divided difference of the product of a variable and a polynomial

-- z if r = k, -z if r = k + 1, and 0 otherwise; k and k + 1 are the places of the two variables of a divided difference
abbrev pub jump : ℕ → ℕ → ℤ → ℤ
jump zero zero z = z
jump zero (suc zero) z = neg_ℤ z
jump zero (suc (suc r)) z = pos 0
jump (suc k) zero z = pos 0
jump (suc k) (suc r) z = jump k r z

pub jump_first : (φ : ℕ → ℕ → ℤ) (a b : ℕ) → across (λ c d. φ (suc c) d) a b ≡ across φ a (suc b) +ℤ φ a b
jump_first φ a b =
    let e = across_ext (λ c d. φ (suc c) d) (stepped (λ c d. climb φ (suc c) d)) (λ c d. omega (arith, ints)) a b in
    let s = across_stepped (λ c d. climb φ (suc c) d) a b in
    omega (arith, ints)

pub jump_second : (φ : ℕ → ℕ → ℤ) (a b : ℕ) → across (λ c d. φ c (suc d)) a b ≡ across φ (suc a) b +ℤ neg_ℤ (φ a b)
jump_second φ a b =
    let e = across_ext (λ c d. φ c (suc d)) (stepped (λ c d. climb φ c (suc d))) (λ c d. omega (arith, ints)) a b in
    let s = across_stepped (λ c d. climb φ c (suc d)) a b in
    omega (arith, ints)

pub along_raise : (k r : ℕ) (φ : List ℕ → ℤ) (α : List ℕ) → suc k < length α → along k (λ γ. φ (raise r γ)) α ≡ along k φ (raise (moved k r) α) +ℤ jump k r (φ α)
along_raise k r φ [] h = absurd (omega arith)
along_raise zero r φ (a ∷ []) h = absurd (omega arith)
along_raise zero zero φ (a ∷ b ∷ α) h = jump_first (λ c d. φ (c ∷ d ∷ α)) a b
along_raise zero (suc zero) φ (a ∷ b ∷ α) h = jump_second (λ c d. φ (c ∷ d ∷ α)) a b
along_raise zero (suc (suc r)) φ (a ∷ b ∷ α) h = sym (+ℤ_idr _)
along_raise (suc k) zero φ (a ∷ α) h = sym (+ℤ_idr _)
along_raise (suc k) (suc r) φ (a ∷ α) h = along_raise k r (λ γ. φ (a ∷ γ)) α (omega arith)

pub pair_jump : (k r : ℕ) (f : Poly) (φ : List ℕ → ℤ) → pair f (λ α. jump k r (φ α)) ≡ jump k r (pair f φ)
pair_jump zero zero f φ = refl
pair_jump zero (suc zero) f φ = pair_opposite f φ
pair_jump zero (suc (suc r)) f φ = pair_zero f
pair_jump (suc k) zero f φ = pair_zero f
pair_jump (suc k) (suc r) f φ = pair_jump k r f φ

jump_none : (k r : ℕ) (z : ℤ) → (r ≡ k → ⊥) → (r ≡ suc k → ⊥) → jump k r z ≡ pos 0
jump_none zero zero z p q = absurd (p refl)
jump_none zero (suc zero) z p q = absurd (q refl)
jump_none zero (suc (suc r)) z p q = refl
jump_none (suc k) zero z p q = refl
jump_none (suc k) (suc r) z p q = jump_none k r z (λ e. p (ap suc e)) (λ e. q (ap suc e))

jump_at : (k : ℕ) (z : ℤ) → jump k k z ≡ z
jump_at zero z = refl
jump_at (suc k) z = jump_at k z

jump_after : (k : ℕ) (z : ℤ) → jump k (suc k) z ≡ neg_ℤ z
jump_after zero z = refl
jump_after (suc k) z = jump_after k z

moved_at : (k : ℕ) → moved k k ≡ suc k
moved_at zero = refl
moved_at (suc k) = ap suc (moved_at k)

moved_after : (k : ℕ) → moved k (suc k) ≡ k
moved_after zero = refl
moved_after (suc k) = ap suc (moved_after k)

-- ---- the terms of Monk's rule

-- whether w has exactly one increasing pair more than the list y, which is w with the entries at a and b swapped; if the entries of w are different,
-- this says that y is a cover of w
abbrev pub is_cover : List ℕ → ℕ → ℕ → Bool
is_cover w a b = rising_pairs w == suc (rising_pairs (swap_at a b w))

-- the pairing of φ with `schubert_over g` of the list w with the entries at the places a and b swapped, if this list is a cover of w; 0 otherwise
abbrev pub covered : Poly → (List ℕ → ℤ) → List ℕ → ℕ → ℕ → ℤ
covered g φ w a b = cond (is_cover w a b) (pair (schubert_over g (swap_at a b w)) φ) (pos 0)

abbrev pub signed : ℕ → ℕ → ℤ → ℤ
signed r b z = cond (nat_lt r b) z (cond (nat_lt b r) (neg_ℤ z) (pos 0))

abbrev pub value : Poly → (List ℕ → ℤ) → List ℕ → ℕ → ℕ → ℤ
value g φ w r b = signed r b (covered g φ w r b)

pub signed_up : (r b : ℕ) (z : ℤ) → r < b → signed r b z ≡ z
signed_up r b z h = ap (λ t. cond t z (cond (nat_lt b r) (neg_ℤ z) (pos 0))) (lt-ltb r b h)

pub signed_down : (r b : ℕ) (z : ℤ) → b < r → signed r b z ≡ neg_ℤ z
signed_down r b z h = ap₂ (λ s t. cond s z (cond t (neg_ℤ z) (pos 0))) (le-ltb r b (omega arith)) (lt-ltb b r h)

pub signed_same : (r b : ℕ) (z : ℤ) → r ≡ b → signed r b z ≡ pos 0
signed_same r b z e = ap₂ (λ s t. cond s z (cond t (neg_ℤ z) (pos 0))) (le-ltb r b (omega arith)) (le-ltb b r (omega arith))

pub covered_sym : (g : Poly) (φ : List ℕ → ℤ) (w : List ℕ) (a b : ℕ) → covered g φ w a b ≡ covered g φ w b a
covered_sym g φ w a b = ap (λ v. cond (rising_pairs w == suc (rising_pairs v)) (pair (schubert_over g v) φ) (pos 0)) (swap_at_sym a b w)

pub covered_none : (g : Poly) (φ : List ℕ → ℤ) (w : List ℕ) (a b : ℕ) → (rising_pairs w ≡ suc (rising_pairs (swap_at a b w)) → ⊥) → covered g φ w a b ≡ pos 0
covered_none g φ w a b n = ap (λ t. cond t (pair (schubert_over g (swap_at a b w)) φ) (pos 0)) (ne_eqb (rising_pairs w) (suc (rising_pairs (swap_at a b w))) n)

pub covered_is : (g : Poly) (φ : List ℕ → ℤ) (w : List ℕ) (a b : ℕ) → rising_pairs w ≡ suc (rising_pairs (swap_at a b w)) → covered g φ w a b ≡ pair (schubert_over g (swap_at a b w)) φ
covered_is g φ w a b e = ap (λ t. cond t (pair (schubert_over g (swap_at a b w)) φ) (pos 0)) (eq-eqb (rising_pairs w) (suc (rising_pairs (swap_at a b w))) e)

pub rises_or : (k : ℕ) (w : List ℕ) → suc k < length w → Once w → Rises k w ⊎ Rises k (exchange_at k w)
rises_or k [] h o = absurd (omega arith)
rises_or zero (a ∷ []) h o = absurd (omega arith)
rises_or zero (a ∷ b ∷ w) h o = elim (cases_lt a b) [ inl l ↦ inl l | inr l ↦ inr (lt_of_le-ne l (λ e. o.0 (inl (sym e)))) ]
rises_or (suc k) (a ∷ w) h o = rises_or k w (omega arith) o.1

-- if the entries of w at the places k and k + 1 increase, then the pairing of φ with S_w is the pairing of `along k φ` with S_v; here v is w with
-- these entries exchanged, and S_w is `schubert_over g w`
pub pair_ascent : (g : Poly) (w : List ℕ) (k : ℕ) (φ : List ℕ → ℤ) → Rises k w → pair (schubert_over g w) φ ≡ pair (schubert_over g (exchange_at k w)) (along k φ)
pair_ascent g w k φ r =
    pair_determined (schubert_over g w) (differences_after k (schubert_over g (exchange_at k w))) φ (any_ascent g w k r)
    ∙ pair_differences k (schubert_over g (exchange_at k w)) φ

pair_ascent_along : (g : Poly) (w : List ℕ) (k : ℕ) (φ : List ℕ → ℤ) → Rises k w → pair (schubert_over g w) (along k φ) ≡ pos 0
pair_ascent_along g w k φ r =
    pair_ascent g w k (along k φ) r
    ∙ pair_ext (schubert_over g (exchange_at k w)) (along k (along k φ)) (λ α. pos 0) (along_square k φ)
    ∙ pair_zero (schubert_over g (exchange_at k w))

-- the pairing of φ with S_y, if p is the number of increasing pairs of y plus 1; 0 otherwise. S is `schubert_over g`
abbrev term : Poly → (List ℕ → ℤ) → ℕ → List ℕ → ℤ
term g φ p y = cond (p == suc (rising_pairs y)) (pair (schubert_over g y) φ) (pos 0)

term_rises : (g : Poly) (φ : List ℕ → ℤ) (k p : ℕ) (y : List ℕ) → Rises k y → term g φ (suc p) y ≡ term g (along k φ) p (exchange_at k y)
term_rises g φ k p y r = search (rules, rising_pairs_exchange, tests_agree, exchange_at, eqb-true, eq-eqb, pair_ascent)

term_along : (g : Poly) (φ : List ℕ → ℤ) (k p : ℕ) (v : List ℕ) → Rises k v → term g (along k φ) p v ≡ pos 0
term_along g φ k p v r = search (rules, pair_ascent_along, along)

covered_step : (g : Poly) (φ : List ℕ → ℤ) (k a b : ℕ) (u : List ℕ) → Once u → Rises k u → a < b → b < length u → (a ≡ k → b ≡ suc k → ⊥)
    → covered g φ u a b ≡ covered g (along k φ) (exchange_at k u) (moved k a) (moved k b)
covered_step g φ k a b u o r l h d =
    by (rises_or k (swap_at a b u) (let s = length-swap_at a b u in let i = rises_within k u r in omega arith) (once_swap a b u (omega arith) h o))
  where
    inside : suc k < length u
    inside = rises_within k u r

    one_less : rising_pairs u ≡ suc (rising_pairs (exchange_at k u))
    one_less = rising_pairs_exchange k u r

    moved_swap : exchange_at k (swap_at a b u) ≡ swap_at (moved k a) (moved k b) (exchange_at k u)
    moved_swap = exchange_swap k a b u inside

    by : Rises k (swap_at a b u) ⊎ Rises k (exchange_at k (swap_at a b u)) → covered g φ u a b ≡ covered g (along k φ) (exchange_at k u) (moved k a) (moved k b)
    by (inl s) =
        ap (λ p. term g φ p (swap_at a b u)) one_less
        ∙ term_rises g φ k (rising_pairs (exchange_at k u)) (swap_at a b u) s
        ∙ ap (term g (along k φ) (rising_pairs (exchange_at k u))) moved_swap
    by (inr s) =
        covered_none g φ u a b no
        ∙ sym (term_along g φ k (rising_pairs (exchange_at k u)) (exchange_at k (swap_at a b u)) s)
        ∙ ap (term g (along k φ) (rising_pairs (exchange_at k u))) moved_swap
      where
        no : rising_pairs u ≡ suc (rising_pairs (swap_at a b u)) → ⊥
        no e = elim (cases_lt (get_or u b 0) (get_or u a 0)) [
          | inl f ↦ let q = raises a b 0 u l h f in omega arith
          | inr f ↦
              let i = inside in
              let n = length-exchange_at k u in
              let ga = get_moved k a 0 u i in
              let gb = get_moved k b 0 u i in
              let m = moved_within k b (length u) i h in
              let q = lowers (moved k a) (moved k b) 0 (exchange_at k u) (moved_order k a b l d) (omega arith) (omega arith) in
              let c = ap rising_pairs moved_swap in
              let t = rising_pairs_exchange k (exchange_at k (swap_at a b u)) s in
              let v = ap rising_pairs (exchange_twice k (swap_at a b u)) in
              let w = one_less in
              omega arith
        ]

value_step : (g : Poly) (φ : List ℕ → ℤ) (k r b : ℕ) (u : List ℕ) → Once u → Rises k u → r < length u → b < length u
    → (r ≡ k → b ≡ suc k → ⊥) → (b ≡ k → r ≡ suc k → ⊥) → value g φ u r b ≡ value g (along k φ) (exchange_at k u) (moved k r) (moved k b)
value_step g φ k r b u o s h l d e = elim (cases_lt r b) [
  | inl f ↦
      signed_up r b (covered g φ u r b) f
      ∙ covered_step g φ k r b u o s f l d
      ∙ sym (signed_up (moved k r) (moved k b) (covered g (along k φ) (exchange_at k u) (moved k r) (moved k b)) (moved_order k r b f d))
  | inr f ↦ elim (cases_lt b r) [
    | inl c ↦
        signed_down r b (covered g φ u r b) c
        ∙ ap neg_ℤ (covered_sym g φ u r b ∙ covered_step g φ k b r u o s c h e ∙ covered_sym g (along k φ) (exchange_at k u) (moved k b) (moved k r))
        ∙ sym (signed_down (moved k r) (moved k b) (covered g (along k φ) (exchange_at k u) (moved k r) (moved k b)) (moved_order k b r c e))
    | inr c ↦
        let q : r ≡ b = omega arith in
        signed_same r b (covered g φ u r b) q
        ∙ sym (signed_same (moved k r) (moved k b) (covered g (along k φ) (exchange_at k u) (moved k r) (moved k b)) (ap (moved k) q))
  ]
]

covered_pair : (g : Poly) (φ : List ℕ → ℤ) (k : ℕ) (u : List ℕ) → Rises k u → covered g φ u k (suc k) ≡ pair (schubert_over g (exchange_at k u)) φ
covered_pair g φ k u r = search (rules, swap_neighbour, rises_within, rising_pairs_exchange, covered_is)

covered_back : (g : Poly) (φ : List ℕ → ℤ) (k : ℕ) (u : List ℕ) → Rises k u → covered g φ (exchange_at k u) k (suc k) ≡ pos 0
covered_back g φ k u r =
    search (rules, length-exchange_at, rises_within, swap_neighbour, exchange_at, exchange_twice, rising_pairs_exchange, covered_none)

-- `jump k r z` if b is `moved k r`, the place to which r moves if the places k and k + 1 are exchanged; 0 otherwise. With z the pairing of φ with the
-- polynomial of v, this number is `value g φ u r b` minus `value g (along k φ) v (moved k r) (moved k b)`; here v is u with its increasing entries at
-- k and k + 1 exchanged
abbrev pub correction : ℕ → ℕ → ℤ → ℕ → ℤ
correction k r z b = cond (b == moved k r) (jump k r z) (pos 0)

correction_there : (k r : ℕ) (z : ℤ) (b : ℕ) → b ≡ moved k r → correction k r z b ≡ jump k r z
correction_there k r z b e = ap (λ t. cond t (jump k r z) (pos 0)) (eq-eqb b (moved k r) e)

correction_elsewhere : (k r : ℕ) (z : ℤ) (b : ℕ) → (b ≡ moved k r → ⊥) → correction k r z b ≡ pos 0
correction_elsewhere k r z b e = ap (λ t. cond t (jump k r z) (pos 0)) (ne_eqb b (moved k r) e)

abbrev pub IsCorrected : Poly → (List ℕ → ℤ) → ℕ → List ℕ → ℕ → ℕ → Type 0
IsCorrected g φ k u r b = value g φ u r b ≡ value g (along k φ) (exchange_at k u) (moved k r) (moved k b) +ℤ correction k r (pair (schubert_over g (exchange_at k u)) φ) b

corrected_up : (g : Poly) (φ : List ℕ → ℤ) (k : ℕ) (u : List ℕ) → Rises k u → IsCorrected g φ k u k (suc k)
corrected_up g φ k u s =
    search (rules, exchange_at, signed_up, covered_pair, along, moved_at, moved_after, signed_down, covered_sym, covered_back, correction_there, jump_at, ints)

corrected_down : (g : Poly) (φ : List ℕ → ℤ) (k : ℕ) (u : List ℕ) → Rises k u → IsCorrected g φ k u (suc k) k
corrected_down g φ k u s =
    search (rules, exchange_at, signed_down, covered_sym, covered_pair, along, moved_after, moved_at, signed_up, covered_back, correction_there, jump_after, ints)

pub value_corrected : (g : Poly) (φ : List ℕ → ℤ) (k r b : ℕ) (u : List ℕ) → Once u → Rises k u → r < length u → b < length u → IsCorrected g φ k u r b
value_corrected g φ k r b u o s h l = by (cases_eq r k) (cases_eq r (suc k)) (cases_eq b (moved k r))
  where
    rest : (r ≡ k → b ≡ suc k → ⊥) → (b ≡ k → r ≡ suc k → ⊥) → correction k r (pair (schubert_over g (exchange_at k u)) φ) b ≡ pos 0 → IsCorrected g φ k u r b
    rest d e c = let v = value_step g φ k r b u o s h l d e in omega (arith, ints)

    by : (r ≡ k) ⊎ (r ≡ k → ⊥) → (r ≡ suc k) ⊎ (r ≡ suc k → ⊥) → (b ≡ moved k r) ⊎ (b ≡ moved k r → ⊥) → IsCorrected g φ k u r b
    by (inl p) q (inl m) =
        let e : b ≡ suc k = m ∙ ap (moved k) p ∙ moved_at k in
        subst (λ i. IsCorrected g φ k u i b) (sym p) (subst (λ j. IsCorrected g φ k u k j) (sym e) (corrected_up g φ k u s))
    by (inl p) q (inr m) =
        rest (λ e f. m (f ∙ sym (moved_at k) ∙ ap (moved k) (sym p))) (λ e f. omega arith) (correction_elsewhere k r (pair (schubert_over g (exchange_at k u)) φ) b m)
    by (inr n) (inl p) (inl m) =
        let e : b ≡ k = m ∙ ap (moved k) p ∙ moved_after k in
        subst (λ i. IsCorrected g φ k u i b) (sym p) (subst (λ j. IsCorrected g φ k u (suc k) j) (sym e) (corrected_down g φ k u s))
    by (inr n) (inl p) (inr m) =
        rest (λ e f. n e) (λ e f. m (e ∙ sym (moved_after k) ∙ ap (moved k) (sym p))) (correction_elsewhere k r (pair (schubert_over g (exchange_at k u)) φ) b m)
    by (inr n) (inr q) (inl m) =
        rest (λ e f. n e) (λ e f. q f) (correction_there k r (pair (schubert_over g (exchange_at k u)) φ) b m ∙ jump_none k r (pair (schubert_over g (exchange_at k u)) φ) n q)
    by (inr n) (inr q) (inr m) =
        rest (λ e f. n e) (λ e f. q f) (correction_elsewhere k r (pair (schubert_over g (exchange_at k u)) φ) b m)

pub sum_correction : (n k r : ℕ) (z : ℤ) → suc k < n → r < n → sum_below n (correction k r z) ≡ jump k r z
sum_correction n k r z h l =
    sum_below_only n (moved k r) (correction k r z) (moved_within k r n h l) (λ b m d. correction_elsewhere k r z b d)
    ∙ correction_there k r z (moved k r) refl

-- the statement that, for polynomials in N variables, multiplication by p commutes with the divided differences in the first n variables
abbrev pub Passes : ℕ → ℕ → Poly → Type 0
Passes n N p = (k : ℕ) (f : Poly) → suc k < n → In N f → Same (times p (differences_after k f)) (differences_after k (times p f))

abbrev pub IsMonk : Poly → (ℕ → Poly) → List ℕ → ℕ → Type 0
IsMonk g c w r =
    (φ : List ℕ → ℤ) → pair (times (plus (variable_after r) (c (get_or w r 0))) (schubert_over g w)) φ ≡ sum_below (length w) (value g φ w r)

pub pair_factor_sum : (N r : ℕ) (p f : Poly) (φ : List ℕ → ℤ) → In N f → r < N → pair (times (plus (variable_after r) p) f) φ ≡ pair f (λ α. φ (raise r α)) +ℤ pair (times p f) φ
pair_factor_sum N r p f φ i h =
    pair_times (plus (variable_after r) p) f φ
    ∙ pair_plus (variable_after r) p (λ α. pair f (λ β. φ (join α β)))
    ∙ ap₂ ◌+ℤ◌ (sym (pair_times (variable_after r) f φ) ∙ pair_variable_times r N f φ i h) (sym (pair_times p f φ))

pub monk_step : (g : Poly) (c : ℕ → Poly) (N k r : ℕ) (u : List ℕ) → In N g → length u ≤ N → Once u → Rises k u → r < length u → Passes (length u) N (c (get_or u r 0))
    → IsMonk g c (exchange_at k u) (moved k r) → IsMonk g c u r
monk_step g c N k r u i n o s h p m φ =
    let inside = rises_within k u s in
    let w : List ℕ = exchange_at k u in
    let z : ℤ = pair (schubert_over g (exchange_at k u)) φ in
    let iu = In_descended g N (rising_pairs u) u i in
    let iw = In_descended g N (rising_pairs (exchange_at k u)) (exchange_at k u) i in
    let lu = pair_factor_sum N r (c (get_or u r 0)) (schubert_over g u) φ iu (omega arith) in
    let mw = moved_within k r (length u) inside h in
    let lw = pair_factor_sum N (moved k r) (c (get_or (exchange_at k u) (moved k r) 0)) (schubert_over g (exchange_at k u)) (along k φ) iw (omega arith) in
    let same_letter = get_moved k r 0 u inside in
    let x = pair_ascent g u k (λ α. φ (raise r α)) s in
    let y = pair_in N (schubert_over g (exchange_at k u)) (along k (λ α. φ (raise r α))) (λ α. along k φ (raise (moved k r) α) +ℤ jump k r (φ α)) iw (λ α l. along_raise k r φ α (omega arith)) in
    let a = pair_add (schubert_over g (exchange_at k u)) (λ α. along k φ (raise (moved k r) α)) (λ α. jump k r (φ α)) in
    let b = pair_jump k r (schubert_over g (exchange_at k u)) φ in
    let q = factor_passes in
    let e = ap (λ t. pair (times (c t) (schubert_over g (exchange_at k u))) (along k φ)) same_letter in
    let mm = m (along k φ) in
    let nl = ap (λ t. sum_below t (value g (along k φ) (exchange_at k u) (moved k r))) (length-exchange_at k u) in
    let re = sum_below_moved k (length u) (value g (along k φ) (exchange_at k u) (moved k r)) inside in
    let ve = sum_below_ext (length u) (value g φ u r) (λ t. value g (along k φ) (exchange_at k u) (moved k r) (moved k t) +ℤ correction k r (pair (schubert_over g (exchange_at k u)) φ) t) (λ t l. value_corrected g φ k r t u o s h l) in
    let va = sum_below_add (length u) (λ t. value g (along k φ) (exchange_at k u) (moved k r) (moved k t)) (correction k r (pair (schubert_over g (exchange_at k u)) φ)) in
    let sc = sum_correction (length u) k r (pair (schubert_over g (exchange_at k u)) φ) inside h in
    omega (arith, ints)
  where
    factor_passes : pair (times (c (get_or u r 0)) (schubert_over g u)) φ ≡ pair (times (c (get_or u r 0)) (schubert_over g (exchange_at k u))) (along k φ)
    factor_passes =
        pair_determined (times (c (get_or u r 0)) (schubert_over g u)) (times (c (get_or u r 0)) (differences_after k (schubert_over g (exchange_at k u)))) φ
        (times_respects (c (get_or u r 0)) (c (get_or u r 0)) (schubert_over g u) (differences_after k (schubert_over g (exchange_at k u))) (Same_refl (c (get_or u r 0))) (any_ascent g u k s))
        ∙ pair_determined (times (c (get_or u r 0)) (differences_after k (schubert_over g (exchange_at k u)))) (differences_after k (times (c (get_or u r 0)) (schubert_over g (exchange_at k u)))) φ
        (p k (schubert_over g (exchange_at k u)) (rises_within k u s) (In_descended g N (rising_pairs (exchange_at k u)) (exchange_at k u) i))
        ∙ pair_differences k (times (c (get_or u r 0)) (schubert_over g (exchange_at k u))) φ
