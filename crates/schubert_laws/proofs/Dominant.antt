-- If the letters of a list w are different, and its code is weakly decreasing (w is dominant), then the Schubert polynomial of w is the monomial
-- whose exponents are the code.
use Rattle.std.proofs.Common.{◌≡◌, ℕ, zero, suc, ◌+◌, ◌<◌, ◌≤◌, List, [], ◌∷◌, length, refl, sym, ◌∙◌, ap, ap₂, subst, arith, inl, inr, ◌⊎◌, cond, nat_lt, None, ℤ, rules}
use Rattle.std.proofs.lemmas.Bool.{cases_eq, cases_lt, lt-ltb, ltb-true, ltb-false, cond_below}
use Rattle.sym_model.specs.Sum.{Among, Once}
use Rattle.sym_model.specs.Polynomial.{Same, coefficient}
use Rattle.sym_model.specs.Partition.{Falls}
use Rattle.sym_model.specs.PlaceOrders.{smaller}
use Rattle.sym_model.specs.Alternant.{staircase}
use Rattle.sym_model.specs.BetaList.{rising_pairs}
use Rattle.sym_model.specs.Permutation.{code, first_ascent}
use Rattle.sym_model.specs.DividedDifference.{x_to, differences_after}
use Rattle.sym_model.specs.Schubert.{schubert, schubert_over}
use Rattle.sym_model.proofs.SortedParts.{Falls_tail}
use Rattle.sym_model.proofs.Polynomials.{same_from_pair}
use Rattle.sym_model.proofs.Numbers.{counts-not_less}
pub use Rattle.independence_laws.proofs.IndependentPowers.{pair_x_to}
use Rattle.schubert_laws.proofs.Differences.{along, pair_differences}
use Rattle.schubert_laws.proofs.Exchanges.{exchange_at, Rises, IsFirstAscent, first_ascent_cases, rising_pairs_exchange, length-exchange_at}
use Rattle.schubert_laws.proofs.DifferenceLaws.{differences_respect}
use Rattle.schubert_laws.proofs.Paths.{over_top, over_first}
use Rattle.std.proofs.Math.Arith.{lt_of_le-ne}

pub smaller_exchange : (x k : ℕ) (w : List ℕ) → smaller x (exchange_at k w) ≡ smaller x w
smaller_exchange x zero [] = refl
smaller_exchange x zero (a ∷ []) = refl
smaller_exchange x zero (a ∷ b ∷ w) = omega arith
smaller_exchange x (suc k) [] = refl
smaller_exchange x (suc k) (a ∷ w) = ap (λ n. cond (nat_lt a x) 1 0 + n) (smaller_exchange x k w)

pub among_exchange : (x k : ℕ) (w : List ℕ) → Among x (exchange_at k w) → Among x w
among_exchange x zero [] m = m
among_exchange x zero (a ∷ []) m = m
among_exchange x zero (a ∷ b ∷ w) (inl e) = inr (inl e)
among_exchange x zero (a ∷ b ∷ w) (inr (inl e)) = inl e
among_exchange x zero (a ∷ b ∷ w) (inr (inr m)) = inr (inr m)
among_exchange x (suc k) [] m = m
among_exchange x (suc k) (a ∷ w) (inl e) = inl e
among_exchange x (suc k) (a ∷ w) (inr m) = inr (among_exchange x k w m)

pub once_exchange : (k : ℕ) (w : List ℕ) → Once w → Once (exchange_at k w)
once_exchange zero [] o = o
once_exchange zero (a ∷ []) o = o
once_exchange zero (a ∷ b ∷ w) o = search rules
once_exchange (suc k) [] o = o
once_exchange (suc k) (a ∷ w) o = (λ m. o.0 (among_exchange a k w m), once_exchange k w o.1)

smaller_step : (a b : ℕ) (w : List ℕ) → a ≤ b → smaller a w ≤ smaller b w
smaller_step a b [] h = omega arith
smaller_step a b (c ∷ w) h = search (rules, ltb-true, ltb-false, (smaller_step a b w h))

-- ---- a list of different letters without an ascent has the staircase as its code

pub smaller_of_all : (a : ℕ) (w : List ℕ) → ((x : ℕ) → Among x w → x < a) → smaller a w ≡ length w
smaller_of_all a [] h = refl
smaller_of_all a (b ∷ w) h =
    let e = lt-ltb b a (h b (inl refl)) in
    let r = smaller_of_all a w (λ x m. h x (inr m)) in
    rw e (omega arith)

pub greater_head : (a : ℕ) (w : List ℕ) → Once (a ∷ w) → ((k : ℕ) → Rises k (a ∷ w) → ⊥) → (x : ℕ) → Among x w → x < a
greater_head a [] o n x m = absurd m
greater_head a (b ∷ w) o n x m = by m (greater_head b w o.1 (λ k. n (suc k)))
  where
    below : b < a
    below = elim (cases_lt b a) [ inl l ↦ l | inr l ↦ elim (cases_eq a b) [ inl e ↦ absurd (o.0 (inl e)) | inr d ↦ absurd (n 0 (lt_of_le-ne l d)) ] ]

    by : (x ≡ b) ⊎ Among x w → ((y : ℕ) → Among y w → y < b) → x < a
    by (inl e) rest = let h = below in omega arith
    by (inr k) rest = let h = below in let r = rest x k in omega arith

pub code_no_ascent : (w : List ℕ) → Once w → ((k : ℕ) → Rises k w → ⊥) → code w ≡ staircase (length w)
code_no_ascent [] o n = refl
code_no_ascent (a ∷ w) o n = ap₂ ◌∷◌ (smaller_of_all a w (greater_head a w o n)) (code_no_ascent w o.1 (λ k. n (suc k)))

abbrev first_or : ℕ → List ℕ → ℕ
first_or d [] = d
first_or d (a ∷ w) = a

strict : (a b : ℕ) → (a ≡ b → ⊥) → (a < b → ⊥) → b < a
strict a b d n = elim (cases_lt b a) [ inl l ↦ l | inr l ↦ absurd (n (omega arith)) ]

-- ---- the code of a list with a weakly decreasing code, after two increasing neighbours are exchanged

-- the entries of c at the places k and k + 1, counted from 0, are equal, and d is c with 1 added to the first of these two entries
abbrev pub IsOneUp : ℕ → List ℕ → List ℕ → Type 0
IsOneUp k [] d = ⊥
IsOneUp zero (a ∷ []) d = ⊥
IsOneUp zero (a ∷ b ∷ c) d = (a ≡ b) × (d ≡ suc a ∷ b ∷ c)
IsOneUp (suc k) (a ∷ c) [] = ⊥
IsOneUp (suc k) (a ∷ c) (b ∷ d) = (a ≡ b) × IsOneUp k c d

along_one_up : (k : ℕ) (c d : List ℕ) (φ : List ℕ → ℤ) → IsOneUp k c d → along k φ d ≡ φ c
along_one_up k [] d φ u = absurd u
along_one_up zero (a ∷ []) d φ u = absurd u
along_one_up zero (a ∷ b ∷ c) d φ u = search rules
along_one_up (suc k) (a ∷ c) [] φ u = absurd u
along_one_up (suc k) (a ∷ c) (b ∷ d) φ u = along_one_up k c d (λ β. φ (b ∷ β)) u.1 ∙ ap (λ x. φ (x ∷ c)) (sym u.0)

pub one_up : (k : ℕ) (w : List ℕ) → Falls (code w) → Rises k w → IsOneUp k (code w) (code (exchange_at k w))
one_up k [] f r = absurd r
one_up zero (a ∷ []) f r = absurd r
one_up zero (a ∷ b ∷ w) f r = search (rules, smaller_step, counts-not_less, cond_below)
one_up (suc k) (a ∷ w) f r = (sym (smaller_exchange a k w), one_up k w (Falls_tail (smaller a w) (code w) f) r)

smaller_below : (a b : ℕ) (w : List ℕ) → b < a → suc (smaller b w) ≤ smaller a (b ∷ w)
smaller_below a b w h = search (rules, cond_below, smaller_step)

pub falls_exchange : (k : ℕ) (w : List ℕ) → Once w → Falls (code w) → Rises k w → ((j : ℕ) → j < k → Rises j w → ⊥) → Falls (code (exchange_at k w))
falls_exchange k [] o f r n = absurd r
falls_exchange zero (a ∷ []) o f r n = absurd r
falls_exchange zero (a ∷ b ∷ w) o f r n =
    let u = one_up zero (a ∷ b ∷ w) f r in
    let d = counts-not_less b a (omega arith) in
    let e : smaller b w ≡ smaller a w = let h = u.0 in omega arith in
    (omega (arith, e), subst (λ x. Falls (x ∷ code w)) e f.1)
falls_exchange (suc zero) (a ∷ []) o f r n = absurd r
falls_exchange (suc zero) (a ∷ b ∷ []) o f r n = absurd r
falls_exchange (suc zero) (a ∷ b ∷ c ∷ w) o f r n =
    let rest = falls_exchange zero (b ∷ c ∷ w) o.1 f.1 r (λ j h. absurd (omega arith)) in
    let u = (one_up zero (b ∷ c ∷ w) f.1 r).1 in
    let l = smaller_below a b (c ∷ w) (strict a b (λ e. o.0 (inl e)) (n zero (omega arith))) in
    let x = smaller_exchange a zero (b ∷ c ∷ w) in
    let h = ap (first_or 0) u in
    (omega (arith, h), rest)
falls_exchange (suc (suc k)) (a ∷ []) o f r n = absurd r
falls_exchange (suc (suc k)) (a ∷ b ∷ w) o f r n =
    let rest = falls_exchange (suc k) (b ∷ w) o.1 f.1 r (λ j h s. n (suc j) (omega arith) s) in
    let x = smaller_exchange a (suc k) (b ∷ w) in
    let y = smaller_exchange b k w in
    let h = f.0 in
    (omega arith, rest)

pub over_exchange : (w : List ℕ) (k : ℕ) → schubert_over (x_to (staircase (length w))) (exchange_at k w) ≡ schubert (exchange_at k w)
over_exchange w k = ap (λ n. schubert_over (x_to (staircase n)) (exchange_at k w)) (sym (length-exchange_at k w))

difference_one_up : (k : ℕ) (c d : List ℕ) → IsOneUp k c d → Same (differences_after k (x_to d)) (x_to c)
difference_one_up k c d u =
    same_from_pair (differences_after k (x_to d)) (x_to c) (λ φ.
    pair_differences k (x_to d) φ ∙ pair_x_to d (along k φ) ∙ along_one_up k c d φ u ∙ sym (pair_x_to c φ))

dominant_within : (n : ℕ) (w : List ℕ) → rising_pairs w < n → Once w → Falls (code w) → Same (schubert w) (x_to (code w))
dominant_within zero w b o f = absurd (omega arith)
dominant_within (suc n) w b o f = by (first_ascent_cases w) (λ v c p q. dominant_within n v c p q)
  where
    by : ((j : ℕ) × IsFirstAscent w j) ⊎ ((first_ascent w ≡ None) × ((j : ℕ) → Rises j w → ⊥))
        → ((v : List ℕ) → rising_pairs v < n → Once v → Falls (code v) → Same (schubert v) (x_to (code v))) → Same (schubert w) (x_to (code w))
    by (inl found) rec α =
        let k : ℕ = found.0 in
        let r = found.1.rises in
        let e = rising_pairs_exchange k w r in
        ap (λ u. coefficient u α) (over_first (x_to (staircase (length w))) w k found.1 ∙ ap (differences_after k) (over_exchange w k))
        ∙ differences_respect k (schubert (exchange_at k w)) (x_to (code (exchange_at k w)))
        (rec (exchange_at k w) (omega arith) (once_exchange k w o) (falls_exchange k w o f r found.1.first)) α
        ∙ difference_one_up k (code w) (code (exchange_at k w)) (one_up k w f r) α
    by (inr none) rec α =
        ap (λ u. coefficient u α) (over_top (x_to (staircase (length w))) (rising_pairs w) w none.0 ∙ ap x_to (sym (code_no_ascent w o none.1)))

-- if the letters of w are different and the code of w is weakly decreasing, S_w is the monomial whose exponents are the code of w
pub dominant : (w : List ℕ) → Once w → Falls (code w) → Same (schubert w) (x_to (code w))
dominant w o f = dominant_within (suc (rising_pairs w)) w (omega arith) o f
