-- A list in Schur polynomials is multiplied by a common denominator of its coefficients and then changed into a list in m.
--     common-next            the least common multiple of a common denominator and the denominator of one more term is a common denominator of all
--     within-whole           if the labels of a list have at most d cells, so have the labels of the list times the denominator
--     expansion-in_monomials the resulting list in m expands the same polynomials
use Rattle.std.proofs.Common.{◌≡◌, ◌⊎◌, ℕ, ◌/◌, ◌<◌, ◌≤◌, List, [], ◌∷◌, ◌++◌, sym, ◌∙◌, ap, subst, inl, inr, arith, ℤ, pos, ◌*ℤ◌}
use Rattle.std.specs.Int.{◌∣◌}
use Rattle.std.proofs.lemmas.Nat.Gcd.{dvd_trans}
use Rattle.sym_model.specs.Sum.{Among}
use Rattle.sym_model.specs.Partition.{size}
use Rattle.sym_model.specs.Polynomial.{Poly, Same, pair, scale}
use Rattle.sym_model.specs.Schur.{schur}
use Rattle.sym_model.specs.Expansion.{monomials, schurs, Fraction, Terms, denominators, value, IsExpansionOf}
use Rattle.sym_model.specs.Expression.{lcm}
use Rattle.sym_model.specs.WholeTerms.{WholeTerms, combined}
use Rattle.sym_model.proofs.Polynomials.{pair_scale, pair_determined, same_from_pair}
use Rattle.sym_model.proofs.Sums.{Among_from_append, Among_from_map}
use Rattle.sym_model.proofs.WholeTerms.{pair-combined}
use Rattle.monomial_laws.specs.ExpressionTerms.{IsList, over}
use Rattle.monomial_laws.proofs.DividedTerms.{expansion_divided}
use Rattle.monomial_laws.proofs.WeightBounds.{lcm-left, lcm-right, lcm-positive}
use Rattle.sparse_polys.specs.LabelSizes.{AreWithin}
use Rattle.sparse_polys.specs.Tables.{IsFractionTable, IsWholeTable}
use Rattle.sparse_polys.proofs.Quotients.{Quotients, IsDivided-quotients}
use Rattle.sparse_polys.proofs.WholeLists.{labels-same}
use Rattle.basis_expand.specs.SchurLists.{sum_at}
use Rattle.basis_expand.proofs.SchurExpansions.{expansion-tells, through}
use Rattle.linear_combinations.specs.Cleared.{IsCommonDenominator}
use native.Mathlib.Nat.{dvd-mul_left}

pub common-none : (done : Terms (List ℕ)) → done ≡ [] → IsCommonDenominator 1 done
common-none done e = record { positive = omega arith; multiple = λ t m. absurd (subst (λ (l : Terms (List ℕ)). Among t l) e m) }

pub common-next : (q r : ℕ) (done : Terms (List ℕ)) (k : List ℕ) (c : Fraction) → 0 < c.1 → r ≡ lcm q c.1 → IsCommonDenominator q done → IsCommonDenominator r (done ++ (k, c) ∷ [])
common-next q r done k c some e is = record {
  positive = subst (λ n. 0 < n) (sym e) (lcm-positive q c.1 is.positive some);
  multiple = λ t m. subst (λ n. t.1.1 ∣ n) (sym e) (by t (Among_from_append t done ((k, c) ∷ []) m));
}
  where
    left : q ∣ lcm q c.1
    left = subst (λ n. q ∣ n) (lcm-left q c.1 is.positive) (dvd-mul_left q _)

    right : c.1 ∣ lcm q c.1
    right = subst (λ n. c.1 ∣ n) (lcm-right q c.1) (dvd-mul_left c.1 _)

    by : (t : List ℕ × Fraction) → Among t done ⊎ Among t ((k, c) ∷ []) → t.1.1 ∣ lcm q c.1
    by t (inl m) = dvd_trans t.1.1 (is.multiple t m) left
    by t (inr (inl i)) = subst (λ (u : List ℕ × Fraction). u.1.1 ∣ lcm q c.1) (sym i) right
    by t (inr (inr n)) = absurd n

pub within-whole : (d q : ℕ) (list : Terms (List ℕ)) (terms : WholeTerms) → IsWholeTable terms → AreWithin d list → Same terms (over q list) → AreWithin d terms
within-whole d q list terms is within same =
    labels-same (λ (label : List ℕ). size label ≤ d) terms (over q list) is same
    (λ t m.
    let u = Among_from_map (λ (v : List ℕ × Fraction). (v.0, v.1.0 *ℤ pos (q / v.1.1))) t list m in
    subst (λ (v : List ℕ × ℤ). size v.0 ≤ d) (sym u.2) (within u.0 u.1))

pub expansion-in_monomials : (list answer : Terms (List ℕ)) (W A : WholeTerms) (q : ℕ) → IsCommonDenominator q list → Same W (over q list)
    → IsList A (λ n. combined (λ label. schur label n) W) → IsFractionTable answer → Quotients q answer A
    → (n : ℕ) (f : Poly) (d : ℕ) → IsExpansionOf schurs list n f d → IsExpansionOf monomials answer n f d
expansion-in_monomials list answer W A q common same made table quotients n f d h = record {
  positive = told.positive;
  equal =
      same_from_pair (scale (pos d) (value monomials answer n)) (scale (pos (denominators answer)) f)
      (λ φ.
      pair_scale (pos d) (value monomials answer n) φ
      ∙ through q (denominators answer) d (pair (value monomials answer n) φ) (pair (g n) φ) (pair f φ) common.positive
      (sym (pair_scale (pos q) (value monomials answer n) φ)
      ∙ pair_determined (scale (pos q) (value monomials answer n)) (scale (pos (denominators answer)) (g n)) φ told.equal
      ∙ pair_scale (pos (denominators answer)) (g n) φ)
      (ap (λ z. pos d *ℤ z) (summed φ) ∙ expansion-tells list n f d q common h φ)
      ∙ sym (pair_scale (pos (denominators answer)) f φ));
}
  where
    g : ℕ → Poly
    g k = combined (λ label. schur label k) W

    told : IsExpansionOf monomials answer n (g n) q
    told = expansion_divided q A answer g (IsDivided-quotients q A answer common.positive table quotients) made n

    summed : (φ : List ℕ → ℤ) → pair (g n) φ ≡ sum_at q list n φ
    summed φ = pair-combined (λ label. schur label n) W φ ∙ pair_determined W (over q list) (λ label. pair (schur label n) φ) same
