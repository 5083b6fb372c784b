-- Lists in s with one term, and the polynomials that they expand.
use Rattle.std.proofs.Common.{◌≡◌, ◌+ℤ◌, ℕ, zero, suc, ◌*◌, ◌/◌, ◌<◌, List, [], ◌∷◌, sym, ◌∙◌, ap, subst, refl, arith, ℤ, pos, ◌*ℤ◌}
use Rattle.std.specs.Prelude.{nat_eq, nat_abs, ◌≤ℤ◌}
use Rattle.std.specs.Int.{◌∣◌}
use Rattle.std.proofs.lemmas.Int.{ints}
use Rattle.std.specs.Cmp.Lexicographic.{pointwise}
use Rattle.std.proofs.Math.Nat.{div-mul_cancel}
use Rattle.fraction_laws.specs.Fractions.{InLowestTerms, whole, scaled, lowest_terms}
use Rattle.fraction_laws.proofs.Fractions.{InLowestTerms-whole, Stands-same, Stands-whole, Stands-lowest_terms}
use Rattle.sym_model.specs.Partition.{size}
use Rattle.sym_model.specs.Polynomial.{pair, one, scale}
use Rattle.sym_model.specs.Schur.{schur}
use Rattle.sym_model.specs.Bases.{monomial}
use Rattle.sym_model.specs.Expansion.{schurs, monomials, Fraction, Terms, IsExpansionOf}
use Rattle.sym_model.specs.Expression.{atom, fraction}
use Rattle.sym_model.specs.ListWeight.{IsBounded}
use Rattle.sym_model.proofs.Ring.{product-one, one-product}
use Rattle.sym_model.proofs.Polynomials.{pair_scale, same_from_pair}
use Rattle.sparse_polys.specs.Combination.{HasMoreAt}
use Rattle.sparse_polys.proofs.Steps.{IsCombination-empty}
use Rattle.sym_model.specs.LabelLimits.{is_label}
use Rattle.monomial_laws.proofs.ExpressionTerms.{list-monomial}
use Rattle.sparse_polys.specs.LabelSizes.{AreWithin}
use Rattle.sparse_polys.proofs.Quotients.{Quotients, Quotients-none, Quotients-next}
use Rattle.sparse_polys.proofs.DividedLists.{expansion-quotients, bounded-quotients, within-quotients}
use Rattle.basis_expand.specs.SchurLists.{IsOneTerm, StandsFor}
use Rattle.monomial_laws.proofs.ExpressionLaws.{expansion_respects}
use Rattle.basis_expand.proofs.SchurExpansions.{expansion-from, expansion_rescaled}
use Rattle.basis_expand.proofs.SchurTables.{common_of}
use Rattle.linear_combinations.proofs.Cleared.{AreCleared-nothing}
use Rattle.sparse_polys.proofs.ClearedSums.{Gains-term}
use native.Mathlib.Nat.{dvd-mul_left}
use lib.IntN.{+ℤ_idl, +ℤ_idr}
use Rattle.strip_rules.proofs.BeadSums.{schur-nothing}

-- the list with the one term c·s_label expands c·s_label, as the numerator of c times s_label, divided by the denominator of c
pub expansion_one_term : (label : List ℕ) (c : Fraction) (list : Terms (List ℕ)) → InLowestTerms c → IsOneTerm label c list
    → (n : ℕ) → IsExpansionOf schurs list n (scale c.0 (schur label n)) c.1
expansion_one_term label c list lc is n =
    let den : c.1 ∣ c.1 = subst (λ m. c.1 ∣ m) (let e : 1 * c.1 ≡ c.1 = omega arith in e) (dvd-mul_left c.1 1) in
    let more = Gains-term c.1 [] list label c (IsCombination-empty (pointwise nat_eq) is_label) is.0
    lc lc.positive den (AreCleared-nothing (pointwise nat_eq) c.1) is.1 c.0
    (alone c lc.positive) in
    expansion-from list n (scale c.0 (schur label n)) c.1 c.1 is.0 (common_of c.1 list lc.positive is.0 more.cleared)
    (λ φ.
    ap (λ z. pos c.1 *ℤ z)
    (more.gains.sums (λ label. pair (schur label n) φ) ∙ +ℤ_idl (c.0 *ℤ pair (schur label n) φ +ℤ pos 0) ∙ +ℤ_idr (c.0 *ℤ pair (schur label n) φ)
    ∙ sym (pair_scale c.0 (schur label n) φ)))
  where
    alone : (c : Fraction) → 0 < c.1 → scaled c.1 c ≡ c.0
    alone c h =
        let d : c.1 ∣ c.1 = subst (λ m. c.1 ∣ m) (let e : 1 * c.1 ≡ c.1 = omega arith in e) (dvd-mul_left c.1 1) in
        let e : c.1 / c.1 ≡ 1 = quotient (c.1 / c.1) c.1 h (div-mul_cancel c.1 d) in
        ap (λ m. c.0 *ℤ pos m) e ∙ product-one c.0
      where
        quotient : (k m : ℕ) → 0 < m → k * m ≡ m → k ≡ 1
        quotient zero m h e = absurd (omega arith)
        quotient (suc zero) m h e = refl
        quotient (suc (suc k)) m h e = absurd (omega arith)

pub expansion_schur : (label : List ℕ) (list : Terms (List ℕ)) → IsOneTerm label (whole (pos 1)) list → (n : ℕ) → IsExpansionOf schurs list n (schur label n) 1
expansion_schur label list is n =
    expansion_respects list n (scale (pos 1) (schur label n)) (schur label n) 1
    (same_from_pair (scale (pos 1) (schur label n)) (schur label n) (λ φ. pair_scale (pos 1) (schur label n) φ ∙ one-product (pair (schur label n) φ)))
    (expansion_one_term label (whole (pos 1)) list (InLowestTerms-whole (pos 1)) is n)

-- the list whose one term is num/den at the empty label expands the number num/den
pub expansion_number : (num : ℤ) (den : ℕ) (list : Terms (List ℕ)) → 0 < den → IsOneTerm [] (lowest_terms num den) list → (n : ℕ) → IsExpansionOf schurs list n (scale num (one n)) den
expansion_number num den list some is n =
    let s = Stands-lowest_terms num den some in
    expansion_rescaled list n (one n) (lowest_terms num den).0 num (lowest_terms num den).1 den s.lowest.positive s.is
    (subst (λ f. IsExpansionOf schurs list n (scale (lowest_terms num den).0 f) (lowest_terms num den).1) (schur-nothing n)
    (expansion_one_term [] (lowest_terms num den) list s.lowest is n))

pub quotient-list : (num : ℤ) (den : ℕ) (list : Terms (List ℕ)) → pos 0 ≤ℤ num → 0 < den → IsOneTerm [] (lowest_terms num den) list
    → StandsFor (fraction (nat_abs num) den) list
quotient-list num den list sign some term n =
    let p : num ≡ pos (nat_abs num) = omega (arith, ints) in
    subst (λ z. IsExpansionOf schurs list n (scale z (one n)) den) p (expansion_number num den list some term n)

one_lowest : lowest_terms (pos 1) 1 ≡ whole (pos 1)
one_lowest = Stands-same _ _ (pos 1) (pos 1) 1 1 (Stands-lowest_terms (pos 1) 1 (omega arith)) (Stands-whole (pos 1)) refl

module _ (label : List ℕ) (list : Terms (List ℕ)) (is : IsOneTerm label (whole (pos 1)) list) where
  quotients : Quotients 1 list ((label, pos 1) ∷ [])
  quotients =
      Quotients-next 1 [] list [] label (pos 1) (omega arith) (Quotients-none 1 (omega arith))
      (subst (λ (c : Fraction). HasMoreAt (pointwise nat_eq) [] label c list) (sym one_lowest) is.1)

  pub expansion_monomial : (n : ℕ) → IsExpansionOf monomials list n (monomial label n) 1
  expansion_monomial n = expansion-quotients (atom monomials label) ((label, pos 1) ∷ []) list 1 (omega arith) is.0 quotients (list-monomial label) refl n

  pub bounded_monomial : IsBounded 1 1 list
  bounded_monomial = bounded-quotients (atom monomials label) ((label, pos 1) ∷ []) list 1 (omega arith) is.0 quotients (list-monomial label) refl

  pub within_monomial : AreWithin (size label) list
  within_monomial = within-quotients (atom monomials label) ((label, pos 1) ∷ []) list 1 (omega arith) is.0 quotients (list-monomial label) refl
