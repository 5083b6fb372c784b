-- The transition rule, as Monk's rule at the last descent. The places of the rule for w, counted from 0, are the last descent q and the last place b
-- whose letter is smaller than that at q (`IsStep w q b`).
--     raises_by_one     if all entries between the two entries of a decreasing pair are smaller than both, swapping the pair gives exactly one more
--                       increasing pair
--     between           if an entry is between the two entries of an increasing pair, both in place and in value, swapping the pair gives no cover
use Rattle.std.proofs.Common.{◌≡◌, ℕ, zero, suc, ◌+◌, ◌-◌, ◌<◌, ◌≤◌, max, List, [], ◌∷◌, length, get_or, set, refl, sym, ◌∙◌, ap, ap₂, subst, arith, inl, inr, cond, nat_lt, Bool, true, false, ℤ, pos, length-append, eq-eqb, Option, Some, None, option_map, rules}
use Rattle.std.specs.Option.{option_or}
use Rattle.std.proofs.Math.ListN.{get_or-append}
use Rattle.std.proofs.Math.Seq.{get_or-append_seam}
use Rattle.std.proofs.lemmas.Int.{ints}
use Rattle.std.proofs.lemmas.List.{append-nil, get_or_default}
use Rattle.std.proofs.lemmas.Bool.{cases_lt, ltb-true, ltb-false, cond_below}
use Rattle.sym_model.specs.Sum.{Among, Once}
use Rattle.sym_model.specs.Polynomial.{Same, plus, negate, times, pair}
use Rattle.sym_model.specs.Partition.{after}
use Rattle.sym_model.specs.PlaceOrders.{inversions}
use Rattle.sym_model.specs.BetaList.{greater, rising_pairs}
use Rattle.sym_model.specs.Permutation.{IsOneLine, last_descent, kept, times_swap, covers_up, covers_down}
use Rattle.sym_model.specs.DividedDifference.{variable_in}
use Rattle.sym_model.specs.Schubert.{schubert_in, schuberts_in}
use Rattle.sym_model.proofs.Sums.{total_only}
use Rattle.sym_model.proofs.Polynomials.{pair_plus, pair_negate, pair_determined, same_from_pair}
use Rattle.schubert_laws.proofs.FixedTails.{schubert_kept, inversions_kept, one_more_inversion}
use Rattle.schubert_laws.proofs.Swaps.{swap_at, length-swap_at, raises, greater_swap, swap_twice, get_swap_left, get_swap_right, among_get, once_swap}
use Rattle.schubert_laws.proofs.MonkStep.{covered, covered_none}
use Rattle.schubert_laws.proofs.MonkFromOne.{swap_is, one_line_swap, longer, top_of, cover_value, cover_term, pair_covers, monk_in}
use Rattle.sym_model.proofs.AfterLists.{length_after, after_among, among_after, once_after}
use Rattle.sym_model.proofs.Numbers.{counts-not_less}
use Rattle.sym_model.proofs.PolynomialLaws.{restricted_test}

greater_set_both : (z b x d : ℕ) (w : List ℕ) → b < length w → z < get_or w b d → z < x → greater z (set w b x) ≡ greater z w
greater_set_both z b x d [] h l m = absurd (omega arith)
greater_set_both z zero x d (y ∷ w) h l m = let p = sym (cond_below {X = ℕ} z y 1 0 l) in let q = sym (cond_below {X = ℕ} z x 1 0 m) in omega arith
greater_set_both z (suc b) x d (y ∷ w) h l m = ap (λ n. cond (nat_lt z y) 1 0 + n) (greater_set_both z b x d w (omega arith) l m)

raises_by_one_first : (x b d : ℕ) (w : List ℕ) → b < length w → get_or w b d < x → ((c : ℕ) → c < b → get_or w c d < get_or w b d)
    → greater (get_or w b d) (set w b x) + rising_pairs (set w b x) ≡ suc (greater x w + rising_pairs w)
raises_by_one_first x b d [] h l s = absurd (omega arith)
raises_by_one_first x zero d (y ∷ w) h l s = search rules
raises_by_one_first x (suc b) d (z ∷ w) h l s =
    let r = raises_by_one_first x b d w (omega arith) l (λ c k. s (suc c) (omega arith)) in
    let f = s 0 (omega arith) in
    let g = greater_set_both z b x d w (omega arith) f (omega arith) in
    let p = counts-not_less x z (omega arith) in
    let q = counts-not_less (get_or w b d) z (omega arith) in
    omega arith

pub raises_by_one : (a b d : ℕ) (w : List ℕ) → a < b → b < length w → get_or w b d < get_or w a d → ((c : ℕ) → a < c → c < b → get_or w c d < get_or w b d)
    → rising_pairs (swap_at a b w) ≡ suc (rising_pairs w)
raises_by_one a zero d w h l m s = absurd (omega arith)
raises_by_one a (suc b) d [] h l m s = absurd (omega arith)
raises_by_one zero (suc b) d (x ∷ w) h l m s =
    let e = get_or_default w b x d (omega arith) in
    let r = raises_by_one_first x b d w (omega arith) m (λ c k. s (suc c) (omega arith) (omega arith)) in
    ap (λ y. greater y (set w b x) + rising_pairs (set w b x)) e ∙ r
raises_by_one (suc a) (suc b) d (x ∷ w) h l m s =
    let r = raises_by_one a b d w (omega arith) (omega arith) m (λ c j k. s (suc c) (omega arith) (omega arith)) in
    let g = greater_swap x a b w in
    omega arith

set_by_way : (x c b : ℕ) (u : List ℕ) (y : ℕ) → c < b → b < length u → y ≡ get_or u c x → set (swap_at c b (set u c x)) c y ≡ set u b x
set_by_way x c b [] y h l e = absurd (omega arith)
set_by_way x c zero (p ∷ u) y h l e = absurd (omega arith)
set_by_way x zero (suc b) (p ∷ u) y h l e = ap (λ q. q ∷ set u b x) e
set_by_way x (suc c) (suc b) (p ∷ u) y h l e = ap (λ v. p ∷ v) (set_by_way x c b u y (omega arith) (omega arith) e)

get_by_way : (x c b d : ℕ) (u : List ℕ) → c < b → b < length u → get_or (swap_at c b (set u c x)) c d ≡ get_or u b d
get_by_way x c b d [] h l = absurd (omega arith)
get_by_way x c zero d (p ∷ u) h l = absurd (omega arith)
get_by_way x zero (suc b) d (p ∷ u) h l = get_or_default u b x d (omega arith)
get_by_way x (suc c) (suc b) d (p ∷ u) h l = get_by_way x c b d u (omega arith) (omega arith)

swap_by_way : (a c b : ℕ) (w : List ℕ) → a < c → c < b → b < length w → swap_at a c (swap_at c b (swap_at a c w)) ≡ swap_at a b w
swap_by_way a c b [] h k l = absurd (omega arith)
swap_by_way a zero b (x ∷ u) h k l = absurd (omega arith)
swap_by_way a (suc c) zero (x ∷ u) h k l = absurd (omega arith)
swap_by_way zero (suc c) (suc b) (x ∷ u) h k l =
    ap₂ ◌∷◌ (get_by_way x c b (get_or u c x) u (omega arith) (omega arith) ∙ get_or_default u b (get_or u c x) x (omega arith)) (set_by_way x c b u (get_or u c x) (omega arith) (omega arith) refl)
swap_by_way (suc a) (suc c) (suc b) (x ∷ u) h k l = ap (λ v. x ∷ v) (swap_by_way a c b u (omega arith) (omega arith) (omega arith))

pub lowers_strictly : (a b d : ℕ) (w : List ℕ) → a < b → b < length w → get_or w a d < get_or w b d → rising_pairs (swap_at a b w) < rising_pairs w
lowers_strictly a b d w o l h =
    let p = get_swap_left a b d w (omega arith) l in
    let q = get_swap_right a b d w (omega arith) l in
    let s = length-swap_at a b w in
    let r = raises a b d (swap_at a b w) o (omega arith) (omega arith) in
    let t = ap rising_pairs (swap_twice a b w (omega arith) l) in
    omega arith

get_set_other : (w : List ℕ) (b c x d : ℕ) → (c ≡ b → ⊥) → get_or (set w b x) c d ≡ get_or w c d
get_set_other [] b c x d n = refl
get_set_other (y ∷ w) zero zero x d n = absurd (n refl)
get_set_other (y ∷ w) zero (suc c) x d n = refl
get_set_other (y ∷ w) (suc b) zero x d n = refl
get_set_other (y ∷ w) (suc b) (suc c) x d n = get_set_other w b c x d (λ e. n (ap suc e))

pub get_swap_other : (a b c d : ℕ) (w : List ℕ) → (c ≡ a → ⊥) → (c ≡ b → ⊥) → get_or (swap_at a b w) c d ≡ get_or w c d
get_swap_other a b c d [] n m = refl
get_swap_other zero zero c d (x ∷ w) n m = refl
get_swap_other zero (suc b) zero d (x ∷ w) n m = absurd (n refl)
get_swap_other zero (suc b) (suc c) d (x ∷ w) n m = get_set_other w b c x d (λ e. m (ap suc e))
get_swap_other (suc a) zero zero d (x ∷ w) n m = absurd (m refl)
get_swap_other (suc a) zero (suc c) d (x ∷ w) n m = get_set_other w a c x d (λ e. n (ap suc e))
get_swap_other (suc a) (suc b) zero d (x ∷ w) n m = refl
get_swap_other (suc a) (suc b) (suc c) d (x ∷ w) n m = get_swap_other a b c d w (λ e. n (ap suc e)) (λ e. m (ap suc e))

-- if a < c < b, and the entries of w at a, c and b increase, then w with the entries at a and b swapped does not have exactly one increasing pair
-- less than w
pub between : (a c b d : ℕ) (w : List ℕ) → a < c → c < b → b < length w → get_or w a d < get_or w c d → get_or w c d < get_or w b d
    → rising_pairs w ≡ suc (rising_pairs (swap_at a b w)) → ⊥
between a c b d w h k l f g e =
    let v : List ℕ = swap_at a c w in
    let lv = length-swap_at a c w in
    let lu = length-swap_at c b (swap_at a c w) in
    let va = get_swap_left a c d w (omega arith) (omega arith) in
    let vc = get_swap_right a c d w (omega arith) (omega arith) in
    let vb = get_swap_other a c b d w (λ q. omega arith) (λ q. omega arith) in
    let one = lowers_strictly a c d w h (omega arith) f in
    let two = lowers_strictly c b d (swap_at a c w) k (omega arith) (omega arith) in
    let ua = get_swap_other c b a d (swap_at a c w) (λ q. omega arith) (λ q. omega arith) in
    let uc = get_swap_left c b d (swap_at a c w) (omega arith) (omega arith) in
    let three = lowers_strictly a c d (swap_at c b (swap_at a c w)) h (omega arith) (omega arith) in
    let way = ap rising_pairs (swap_by_way a c b w h k l) in
    omega arith

-- each entry of w after place q, counted from 0, is at most the next one
abbrev pub RisesFrom : ℕ → List ℕ → Type 0
RisesFrom q w = (b : ℕ) → q < b → suc b < length w → get_or w b 0 ≤ get_or w (suc b) 0

abbrev pub IsLastDescent : List ℕ → Option ℕ → Type 0
IsLastDescent w None = (b : ℕ) → suc b < length w → get_or w b 0 ≤ get_or w (suc b) 0
IsLastDescent w (Some r) = (q : ℕ) × (r ≡ suc q) × (suc q < length w) × (get_or w (suc q) 0 < get_or w q 0) × RisesFrom q w

pub last_descent_is : (w : List ℕ) (o : Option ℕ) → last_descent w ≡ o → IsLastDescent w o
last_descent_is w o e = subst (IsLastDescent w) e (facts w)
  where
    step : (a b : ℕ) (v : List ℕ) (p : Option ℕ) → IsLastDescent (b ∷ v) p → (t : Bool) → nat_lt b a ≡ t → IsLastDescent (a ∷ b ∷ v) (option_or (option_map suc p) (cond t (Some 1) None))
    step a b v None i true f = (0, refl, omega arith, ltb-true b a f, later)
      where
        later : RisesFrom 0 (a ∷ b ∷ v)
        later zero h l = absurd (omega arith)
        later (suc c) h l = i c (omega arith)
    step a b v None i false f = later
      where
        later : IsLastDescent (a ∷ b ∷ v) None
        later zero l = ltb-false b a f
        later (suc c) l = i c (omega arith)
    step a b v (Some r) i t f = (suc i.0, ap suc i.1, omega (arith, i.2), i.3, later)
      where
        later : RisesFrom (suc i.0) (a ∷ b ∷ v)
        later zero h l = absurd (omega arith)
        later (suc c) h l = i.4 c (omega arith) (omega arith)

    facts : (v : List ℕ) → IsLastDescent v (last_descent v)
    facts [] = λ b h. absurd (omega arith)
    facts (a ∷ []) = λ b h. absurd (omega arith)
    facts (a ∷ b ∷ v) = step a b v (last_descent (b ∷ v)) (facts (b ∷ v)) (nat_lt b a) refl

-- ---- the transition rule, with places counted from 0

pub once_get : (w : List ℕ) (i j : ℕ) → Once w → i < length w → j < length w → get_or w i 0 ≡ get_or w j 0 → i ≡ j
once_get [] i j o h l e = absurd (omega arith)
once_get (x ∷ w) zero zero o h l e = refl
once_get (x ∷ w) zero (suc j) o h l e = absurd (o.0 (subst (λ y. Among y w) (sym e) (among_get j 0 w (omega arith))))
once_get (x ∷ w) (suc i) zero o h l e = absurd (o.0 (subst (λ y. Among y w) e (among_get i 0 w (omega arith))))
once_get (x ∷ w) (suc i) (suc j) o h l e = ap suc (once_get w i j o.1 (omega arith) (omega arith) e)

pub strict_get : (w : List ℕ) (i j : ℕ) → Once w → i < length w → j < length w → (i ≡ j → ⊥) → get_or w i 0 ≤ get_or w j 0 → get_or w i 0 < get_or w j 0
strict_get w i j o h l n m = search (rules, cases_lt, once_get)

pub rises_chain : (q c b : ℕ) (w : List ℕ) → RisesFrom q w → q < c → c ≤ b → b < length w → get_or w c 0 ≤ get_or w b 0
rises_chain q c zero w r h l m = absurd (omega arith)
rises_chain q c (suc b) w r h l m = elim (cases_lt c (suc b)) [
  | inl f ↦ let e = rises_chain q c b w r h (omega arith) (omega arith) in let s = r b (omega arith) m in omega arith
  | inr f ↦ let e : c ≡ suc b = omega arith in let d = ap (λ i. get_or w i 0) e in omega arith
]

-- q and b are the places of the transition rule for w, counted from 0: the last descent is at q, and b is the last place whose letter is smaller than
-- the letter at q
pub record IsStep (w : List ℕ) (q b : ℕ) : Type 0 where
  pub order : q < b
  pub inside : b < length w
  pub falls : get_or w b 0 < get_or w q 0
  pub rises : RisesFrom q w
  pub later : (c : ℕ) → b < c → c < length w → get_or w q 0 ≤ get_or w c 0

-- the letter at q is greater than the one at b, and no letter after q, at a place before b or after it, is between the two letters in value
pub record IsNearest (w : List ℕ) (q b : ℕ) : Type 0 where
  pub order : q < b
  pub inside : b < length w
  pub falls : get_or w b 0 < get_or w q 0
  pub earlier : (c : ℕ) → q < c → c < b → get_or w c 0 ≤ get_or w b 0
  pub later : (c : ℕ) → b < c → c < length w → get_or w q 0 ≤ get_or w c 0

pub step_nearest : (w : List ℕ) (q b : ℕ) → IsStep w q b → IsNearest w q b
step_nearest w q b s = record {
  order = s.order;
  inside = s.inside;
  falls = s.falls;
  earlier = λ c h l. rises_chain q c b w s.rises h (omega arith) s.inside;
  later = s.later;
}

-- if q and b are such places, then the list w·t_qb, which is w with the letters at q and b swapped, has one inversion less than w
pub one_fewer_nearest : (w : List ℕ) (q b : ℕ) → IsOneLine w → IsNearest w q b → inversions w ≡ inversions (swap_at q b w) + 1
one_fewer_nearest w q b o s =
    let order = s.order in
    let inside = s.inside in
    one_more_inversion (swap_at q b w) w (once_swap q b w (omega arith) inside o.once) o.once (sym (length-swap_at q b w))
    (raises_by_one q b 0 w order inside s.falls (λ c h l. strict_get w c b o.once (omega arith) inside (λ z. omega arith) (s.earlier c h l)))

pub one_fewer : (w : List ℕ) (q b : ℕ) → IsOneLine w → IsStep w q b → inversions w ≡ inversions (swap_at q b w) + 1
one_fewer w q b o s = one_fewer_nearest w q b o (step_nearest w q b s)

-- let q and b be such places, and let u be w·t_qb with a fixed letter added at its end. If c is a place after q other than b, then swapping the letters
-- at q and c in u does not give a cover of u
pub no_other : (w : List ℕ) (q b c : ℕ) → IsOneLine w → IsNearest w q b → q < c → c ≤ length w → (c ≡ b → ⊥)
    → rising_pairs (longer (swap_at q b w) 0) ≡ suc (rising_pairs (swap_at q c (longer (swap_at q b w) 0))) → ⊥
no_other w q b c o s h l n e =
    let u : List ℕ = swap_at q b w in
    let lu = length-swap_at q b w in
    let ll = length-append (swap_at q b w) (after (length (swap_at q b w)) 1) in
    let la = length_after (length (swap_at q b w)) 1 in
    let order = s.order in
    let inside = s.inside in
    let falls = s.falls in
    let old = λ (i : ℕ) (k : i < length (swap_at q b w)). get_or-append (swap_at q b w) (after (length (swap_at q b w)) 1) 0 i k in
    let lq = old q (omega arith) in
    let lb = old b (omega arith) in
    let uq = get_swap_left q b 0 w (omega arith) inside in
    let ub = get_swap_right q b 0 w (omega arith) inside in
    elim (cases_lt c b) [
      | inl f ↦
          let lc = old c (omega arith) in
          let uc = get_swap_other q b c 0 w (λ z. omega arith) n in
          let x = strict_get w c b o.once (omega arith) inside n (s.earlier c h f) in
          let r = raises q c 0 (longer (swap_at q b w) 0) h (omega arith) (omega arith) in
          omega arith
      | inr f ↦ elim (cases_lt c (length w)) [
        | inl g ↦
            let lc = old c (omega arith) in
            let uc = get_swap_other q b c 0 w (λ z. omega arith) n in
            let x = strict_get w q c o.once (omega arith) g (λ z. omega arith) (s.later c (omega arith) g) in
            between q b c 0 (longer (swap_at q b w) 0) order (omega arith) (omega arith) (omega arith) (omega arith) e
        | inr g ↦
            let z : c ≡ length (swap_at q b w) = omega arith in
            let last = ap (λ i. get_or (longer (swap_at q b w) 0) i 0) z ∙ get_or-append_seam (swap_at q b w) (length (swap_at q b w) + 1) [] 0 in
            let m = (o.letters (get_or w q 0) (among_get q 0 w (omega arith))).1 in
            between q b c 0 (longer (swap_at q b w) 0) order (omega arith) (omega arith) (omega arith) (omega arith) e
      ]
    ]

pub swap_there : (w : List ℕ) (q b : ℕ) → q < b → b < length w → times_swap (suc q) (suc b) (swap_at q b w) ≡ kept w
swap_there w q b h l = search (rules, length-swap_at, swap_at, append-nil, swap_is, swap_twice)

pair_up : (n : ℕ) (φ : List ℕ → ℤ) (w : List ℕ) (q b : ℕ) → IsOneLine w → IsNearest w q b → pair (schuberts_in (covers_up (suc q) (swap_at q b w)) n) φ ≡ pair (schubert_in w n) φ
pair_up n φ w q b o s =
    let order = s.order in
    let inside = s.inside in
    let lu = length-swap_at q b w in
    let ou = one_line_swap q b w (omega arith) inside o in
    pair_covers n φ (swap_at q b w) (λ j. times_swap (suc q) j (swap_at q b w)) (after (suc q) (max (length (swap_at q b w)) (suc q) + 1 - suc q))
    ∙ total_only (λ j. cover_value n φ (swap_at q b w) (times_swap (suc q) j (swap_at q b w))) (suc b) (after (suc q) (max (length (swap_at q b w)) (suc q) + 1 - suc q))
    (once_after (suc q) (max (length (swap_at q b w)) (suc q) + 1 - suc q))
    (among_after (suc q) (max (length (swap_at q b w)) (suc q) + 1 - suc q) (suc b) (omega arith) (omega arith))
    (λ j m n'. others j ou (after_among (suc q) (max (length (swap_at q b w)) (suc q) + 1 - suc q) j m) lu n')
    ∙ ap (λ v. cover_value n φ (swap_at q b w) v) (swap_there w q b order inside)
    ∙ ap (λ t. cond t (pair (schubert_in (kept w) n) φ) (pos 0)) (eq-eqb (inversions (kept w)) (inversions (swap_at q b w) + 1) covers)
    ∙ pair_determined (schubert_in (kept w) n) (schubert_in w n) φ (schubert_kept w n o)
  where
    covers : inversions (kept w) ≡ inversions (swap_at q b w) + 1
    covers = inversions_kept w o ∙ one_fewer_nearest w q b o s

    others : (j : ℕ) → IsOneLine (swap_at q b w) → (suc q < j) × (j ≤ suc q + (max (length (swap_at q b w)) (suc q) + 1 - suc q)) → length (swap_at q b w) ≡ length w → (j ≡ suc b → ⊥)
        → cover_value n φ (swap_at q b w) (times_swap (suc q) j (swap_at q b w)) ≡ pos 0
    others j ou r lu d =
        let order = s.order in
        let inside = s.inside in
        let x = r.0 in
        let y = r.1 in
        let i : suc q - 1 ≡ q = omega arith in
        sym (cover_term n φ (swap_at q b w) 0 (suc q) j ou (omega arith) x (omega arith))
        ∙ ap (λ t. covered (top_of (longer (swap_at q b w) 0)) (restricted_test n φ) (longer (swap_at q b w) 0) t (j - 1)) i
        ∙ covered_none (top_of (longer (swap_at q b w) 0)) (restricted_test n φ) (longer (swap_at q b w) 0) q (j - 1)
        (no_other w q b (j - 1) o s (omega arith) (omega arith) (λ z. d (omega arith)))

-- the recursion of the transition rule holds for these places too
pub transition_nearest : (n : ℕ) (w : List ℕ) (q b : ℕ) → IsOneLine w → IsNearest w q b
    → Same (schubert_in w n) (plus (times (variable_in (suc q) n) (schubert_in (swap_at q b w) n)) (schuberts_in (covers_down (suc q) (swap_at q b w)) n))
transition_nearest n w q b o s =
    same_from_pair (schubert_in w n) (plus (times (variable_in (suc q) n) (schubert_in (swap_at q b w) n)) (schuberts_in (covers_down (suc q) (swap_at q b w)) n)) (λ φ.
    let order = s.order in
    let inside = s.inside in
    let ou = one_line_swap q b w (omega arith) inside o in
    let m = pair_determined (times (variable_in (suc q) n) (schubert_in (swap_at q b w) n)) (plus (schuberts_in (covers_up (suc q) (swap_at q b w)) n) (negate (schuberts_in (covers_down (suc q) (swap_at q b w)) n))) φ
    (monk_in (swap_at q b w) (suc q) n ou (omega arith)) in
    let p = pair_plus (schuberts_in (covers_up (suc q) (swap_at q b w)) n) (negate (schuberts_in (covers_down (suc q) (swap_at q b w)) n)) φ in
    let g = pair_negate (schuberts_in (covers_down (suc q) (swap_at q b w)) n) φ in
    let u = pair_up n φ w q b o s in
    let t = pair_plus (times (variable_in (suc q) n) (schubert_in (swap_at q b w) n)) (schuberts_in (covers_down (suc q) (swap_at q b w)) n) φ in
    omega (arith, ints))

pub transition_at : (n : ℕ) (w : List ℕ) (q b : ℕ) → IsOneLine w → IsStep w q b
    → Same (schubert_in w n) (plus (times (variable_in (suc q) n) (schubert_in (swap_at q b w) n)) (schuberts_in (covers_down (suc q) (swap_at q b w)) n))
transition_at n w q b o s = transition_nearest n w q b o (step_nearest w q b s)
