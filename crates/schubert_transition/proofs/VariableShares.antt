-- Bounds, one for each pair of a permutation w and a monomial x^e, whose sum no step of the transition rule increases (`IsShare` of
-- `transition_walk`). The *weight* of a permutation with at most 255 letters is greater than the sum of the weights of the permutations that replace
-- it in one step.
--     exact_share      the coefficient of x^γ in x^e·S_w is such a bound
--     outside_falls    `outside_share` is such a bound: 0 if x^e and w are within given limits of variables and degree, else the weight of w
--     within_terms     if the sum of |c|·outside_share over the terms of a list is 0, all of them are within these limits
use Rattle.std.proofs.Common.{◌≡◌, ℕ, zero, suc, ◌+◌, ◌≤◌, Bool, true, false, ◌&&◌, cond, List, [], ◌∷◌, length, refl, ap, inl, inr, arith, leb, ℤ, pos, negsuc}
use Rattle.std.specs.Prelude.{nat_abs}
use Rattle.std.proofs.lemmas.Int.{ints}
use Rattle.std.proofs.lemmas.Bool.{and_parts, and_from, leb-true, le-leb}
use Rattle.fraction_laws.specs.Fractions.{whole}
use Rattle.sym_model.specs.DividedDifference.{raised}
use Rattle.sym_model.specs.LabelLimits.{is_monomial_label}
use Rattle.sym_model.specs.Partition.{size}
use Rattle.sym_model.specs.Permutation.{IsTransition, times_swap, covers_down}
use Rattle.sym_model.specs.PlaceOrders.{inversions}
use Rattle.sym_model.specs.Sum.{total, Among}
use Rattle.sym_model.specs.WholeTerms.{WholeTerms}
use Rattle.sym_model.proofs.Polynomials.{at_only, at_only-nonnegative}
use Rattle.schubert_laws.proofs.LowerPermutations.{transition_inversions}
use Rattle.schubert_laws.proofs.Members.{short_cover, short_transition, place_within, cover_inversions}
use Rattle.linear_combinations.proofs.LowestTerms.{not_zero-is_reduced}
use Rattle.linear_combinations.proofs.Totals.{term-among}
use Rattle.sparse_polys.proofs.Raising.{size-raised, length-raised}
use Rattle.transition_walk.specs.Growth.{IsShare}
use Rattle.transition_walk.specs.Transitions.{IsShort, weight}
use Rattle.transition_walk.proofs.Monomials.{schubert_monomials}
use Rattle.transition_walk.proofs.Ranks.{weight_positive}
use Rattle.transition_walk.proofs.Shares.{natural}
use Rattle.transition_walk.proofs.Steps.{covers_weigh_less}
use Rattle.transition_laws.specs.Acted.{acted, raised_terms}
use Rattle.transition_laws.proofs.ActedLaws.{acted_step}
use Rattle.schubert_transition.specs.TermLists.{IsMonomialTable}
use Rattle.schubert_transition.proofs.Acted.{acted_natural}
use Rattle.sym_model.specs.Sum.{sum_by}
use Rattle.sym_model.proofs.NumberSums.{sum_by-within, sum_by-most}
use Rattle.linear_combinations.specs.Gains.{weighed}
use Rattle.linear_combinations.proofs.Weighed.{weighed_among}
use native.Mathlib.Nat.{mul-le-mul_left}

-- the coefficient of x^γ in x^e·S_w, in n variables
abbrev pub coefficient_share : ℕ → List ℕ → List ℕ → List ℕ → ℕ
coefficient_share n γ w e = nat_abs (acted n (at_only γ) w e)

pub share_is : (n : ℕ) (γ w e : List ℕ) → IsShort n w → acted n (at_only γ) w e ≡ pos (coefficient_share n γ w e)
share_is n γ w e short = natural (acted n (at_only γ) w e) (acted_natural n (at_only γ) w e (schubert_monomials n w short) (at_only-nonnegative γ))

shares_are : (n : ℕ) (γ e : List ℕ) (xs : List (List ℕ)) → ((x : List ℕ) → Among x xs → IsShort n x)
    → total (λ (x : List ℕ). acted n (at_only γ) x e) xs ≡ pos (sum_by (λ (x : List ℕ). coefficient_share n γ x e) xs)
shares_are n γ e [] h = refl
shares_are n γ e (x ∷ xs) h =
    let a = share_is n γ x e (h x (inl refl)) in
    let b = shares_are n γ e xs (λ y m. h y (inr m)) in
    omega (arith, ints)

pub exact_share : (n top : ℕ) (γ : List ℕ) → IsShare (λ r v e. raised_terms r e) (λ e. 255 + size e) n top (coefficient_share n γ)
exact_share n top γ = record {
  falls = λ r s w e short small t inside extent.
      let place = place_within w r s short.one_line t in
      let p1 = place.1 in
      let few = short.few in
      let v = short_transition n w r s short t in
      let a = acted_step n r s (at_only γ) w e short.one_line t in
      let b = share_is n γ w e short in
      let c = share_is n γ (times_swap r s w) (raised r e) v in
      let d = shares_are n γ e (covers_down r (times_swap r s w)) (λ x m. short_cover n r (times_swap r s w) x v (omega arith) m) in
      omega (arith, ints);
}

-- ---- the second bound, `outside_share`: 0 if x^e and w are within limits of variables and degree, and the weight of w otherwise

-- whether x^e has at most n variables, and |e| plus the number of inversions of w is at most d
abbrev pub is_within : ℕ → ℕ → List ℕ → List ℕ → Bool
is_within n d w e = leb (length e) n && leb (size e + inversions w) d

abbrev pub outside_share : ℕ → ℕ → List ℕ → List ℕ → ℕ
outside_share n d w e = cond (is_within n d w e) 0 (weight w)

within_is : (n d : ℕ) (w e : List ℕ) → is_within n d w e ≡ true → (length e ≤ n) × (size e + inversions w ≤ d)
within_is n d w e h = let p = and_parts (leb (length e) n) (leb (size e + inversions w) d) h in (leb-true (length e) n p.0, leb-true (size e + inversions w) d p.1)

within_from : (n d : ℕ) (w e : List ℕ) → length e ≤ n → size e + inversions w ≤ d → is_within n d w e ≡ true
within_from n d w e h k = and_from (leb (length e) n) (leb (size e + inversions w) d) (le-leb (length e) n h) (le-leb (size e + inversions w) d k)

outside_none : (n d : ℕ) (w e : List ℕ) → length e ≤ n → size e + inversions w ≤ d → outside_share n d w e ≡ 0
outside_none n d w e h k = ap (λ b. cond b 0 (weight w)) (within_from n d w e h k)

outside_most : (n d : ℕ) (w e : List ℕ) → outside_share n d w e ≤ weight w
outside_most n d w e = by (is_within n d w e)
  where
    by : (b : Bool) → cond b 0 (weight w) ≤ weight w
    by true = omega arith
    by false = omega arith

pub outside_falls : (n d top : ℕ) → IsShare (λ r v e. raised_terms r e) (λ e. 255 + size e) n top (outside_share n d)
outside_falls n d top = record { falls = λ r s w e short small t inside extent. by r s w e short small t (is_within n d w e) refl }
  where
    by : (r s : ℕ) (w e : List ℕ) → IsShort n w → length w ≤ 255 → IsTransition w r s → (b : Bool) → is_within n d w e ≡ b
        → weighed (outside_share n d (times_swap r s w)) (raised_terms r e) + sum_by (λ (x : List ℕ). outside_share n d x e) (covers_down r (times_swap r s w)) ≤ cond b 0 (weight w)
    by r s w e short small t true h =
        let p = within_is n d w e h in
        let p0 = p.0 in
        let p1 = p.1 in
        let place = place_within w r s short.one_line t in
        let first = place.0 in
        let last = place.1 in
        let few = short.few in
        let i = transition_inversions w r s short.one_line t in
        let l = length-raised r e place.0 in
        let z = size-raised r e in
        let a = outside_none n d (times_swap r s w) (raised r e) (omega arith) (omega arith) in
        let b = sum_by-most (λ (x : List ℕ). outside_share n d x e) (covers_down r (times_swap r s w)) 0
        (λ x m.
        let j = cover_inversions r (times_swap r s w) x m in
        let o = outside_none n d x e p0 (omega arith) in
        omega arith) in
        omega arith
    by r s w e short small t false h =
        let a = outside_most n d (times_swap r s w) (raised r e) in
        let b = sum_by-within (λ (x : List ℕ). outside_share n d x e) weight (covers_down r (times_swap r s w)) (λ x m. outside_most n d x e) in
        let c = covers_weigh_less 255 r s w (omega arith) (record { one_line = short.one_line; few = small }) t in
        omega arith

pub outside_start : (n d : ℕ) (w : List ℕ) → inversions w ≤ d → outside_share n d w [] ≡ 0
outside_start n d w h = outside_none n d w [] (omega arith) (omega arith)

pub within_by : (n d : ℕ) (w e : List ℕ) → (1 ≤ outside_share n d w e → ⊥) → (length e ≤ n) × (size e + inversions w ≤ d)
within_by n d w e none = by (is_within n d w e) refl
  where
    by : (b : Bool) → is_within n d w e ≡ b → (length e ≤ n) × (size e + inversions w ≤ d)
    by true h = within_is n d w e h
    by false h = absurd (none (let p = weight_positive w in let q = ap (λ b. cond b 0 (weight w)) h in omega arith))

-- let `terms` have different monomials and no coefficient 0. If the sum of |c|·outside_share over these terms is 0, then each monomial has at most n
-- variables, and its degree plus the number of inversions of w is at most d
pub within_terms : (n d : ℕ) (w : List ℕ) (terms : WholeTerms) → IsMonomialTable terms → weighed (outside_share n d w) terms ≤ 0
    → (t : List ℕ × ℤ) → Among t terms → (length t.0 ≤ n) × (size t.0 + inversions w ≤ d)
within_terms n d w terms is none t m =
    within_by n d w t.0
    (λ some.
    let a = weighed_among (outside_share n d w) terms t m in
    let b = mul-le-mul_left (nat_abs t.1) some in
    not_zero-is_reduced (whole t.1) (and_parts _ _ (term-among is_monomial_label whole terms is.proper t m)).0 (ap whole (zero_size t.1 (omega arith))))
  where
    zero_size : (z : ℤ) → nat_abs z ≤ 0 → z ≡ pos 0
    zero_size (pos zero) h = refl
    zero_size (pos (suc n)) h = absurd (omega arith)
    zero_size (negsuc n) h = absurd (omega arith)
