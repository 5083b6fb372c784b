-- Invariants of the conversion of augmented monomials. One step converts the last part of each augmented monomial with the greatest number of parts;
-- at the end, each augmented monomial has at most one part. The value of a table is the sum of c·φ(α) over the terms c·x^α of its polynomial, for a
-- function φ; the cost of a table is the sum of |c|·cost(label) over its terms with the coefficients c.
--     step-value, step-cost, step-ready       a step does not change the value, does not increase the cost, and removes one part from the longest
--                                             augmented monomials
--     end-value, end-mass, end-low            the list in the target basis at the end has the same value; the absolute values of its coefficients add
--                                             up to at most the cost, and its labels have at most as many cells as there are lists of factors
use Rattle.std.proofs.Common.{◌≡◌, ℕ, suc, ◌^◌, ◌≤◌, List, [], length, refl, ◌∙◌, arith, ℤ, rules}
use Rattle.std.specs.Cmp.Lexicographic.{nat_list_eq_equiv}
use Rattle.sym_model.specs.Partition.{size}
use Rattle.sym_model.specs.WholeTerms.{WholeTerms}
use Rattle.linear_combinations.proofs.Labels.{same_pair}
use Rattle.linear_combinations.specs.Gains.{WholeTermsOf, HaveLabels, Gains, Overflows, mass, over, replaced}
use Rattle.linear_combinations.proofs.Labels.{same_partition}
use Rattle.linear_combinations.proofs.Counted.{replaced_at}
use Rattle.linear_combinations.proofs.Masses.{labels_gained, labels_replaced, overflow_mass}
use Rattle.sparse_polys.specs.LabelSizes.{AreWithin}
use Rattle.sparse_polys.specs.Tables.{equal as same_label, IsWholeTable}
use Rattle.sparse_polys.specs.declared.family.Family.{Family}
use Rattle.basis_change.specs.AugmentedProducts.{MixedLabel, Mixed, equal, IsMixedTable, IsReady, AreSmall, IsConvertible, conversion, in_target}
use Rattle.basis_change.specs.Factors.{target_value, product_value, ArePowerSums}
use Rattle.basis_change.specs.Costs.{cost}
use Rattle.basis_change.proofs.Values.{value-conversion, value-target}
use Rattle.basis_change.proofs.Costs.{cost-positive, cost-conversion, ready-conversion, mass-target, low-target}
use Rattle.linear_combinations.proofs.Weighed.{gains_mass}
use Rattle.linear_combinations.specs.Gains.{weighed}
use Rattle.basis_change.proofs.MixedLabels.{label_laws}
use Rattle.linear_combinations.proofs.Weighed.{mass_within-weighed, weighed_images, gains_weighed, overflow_weighed}
use lib.IntN.{+ℤ_idl}

pub convertible : (factors : List WholeTerms) (most : ℕ) (es : Mixed) → AreSmall factors → length factors ≤ 15 → HaveLabels (IsReady (length factors) most) es → HaveLabels (IsConvertible factors most) es
convertible factors most es small few ready t m = record { small = small; lists = few; ready = ready t m }

pub fewer : (d m n : ℕ) (es : Mixed) → m ≤ n → HaveLabels (IsReady d m) es → HaveLabels (IsReady d n) es
fewer d m n es l h t k = search rules

replaced-value : {L : Type 0} (image : MixedLabel → WholeTermsOf L) (f : L → ℤ) (g : MixedLabel → ℤ) (es : Mixed) (new : WholeTermsOf L) → Gains [] (replaced image es) new → HaveLabels (λ l. over f (image l) ≡ g l) es
    → over f new ≡ over g es
replaced-value image f g es new a h =
    a.sums f ∙ +ℤ_idl (over f (replaced image es)) ∙ replaced_at image g f es h

module _ (factors : List WholeTerms) (es : Mixed) where
  module _ (most : ℕ) (ready : HaveLabels (IsReady (length factors) most) es) where
    pub step-value : (family : Family) (n : ℕ) (φ : List ℕ → ℤ) (next : Mixed) → ArePowerSums family factors → Gains [] (replaced (conversion factors most) es) next
        → over (product_value family n φ) next ≡ over (product_value family n φ) es
    step-value family n φ next are a =
        replaced-value (conversion factors most) (product_value family n φ) (product_value family n φ) es next a
        (λ t m. value-conversion family most most n φ factors t.0 are (ready t m))

    step-gained : AreSmall factors → weighed cost (replaced (conversion factors most) es) ≤ weighed cost es
    step-gained small = weighed_images (conversion factors most) cost cost es (λ t m. cost-conversion most most factors t.0 small (ready t m))

    pub step-cost : (next : Mixed) → AreSmall factors → IsMixedTable next → Gains [] (replaced (conversion factors most) es) next → weighed cost next ≤ weighed cost es
    step-cost next small is a = let g = gains_weighed same_pair label_laws [] (replaced (conversion factors most) es) next is a cost in let s = step-gained small in omega arith

    pub step-large : AreSmall factors → Overflows equal [] (replaced (conversion factors most) es) → 2 ^ 127 ≤ weighed cost es
    step-large small o = let w = overflow_weighed same_pair [] (replaced (conversion factors most) es) o cost (cost-positive o.0) in let s = step-gained small in omega arith

  pub step-ready : (most : ℕ) (next : Mixed) → AreSmall factors → HaveLabels (IsReady (length factors) (suc most)) es → IsMixedTable next → Gains [] (replaced (conversion factors (suc most)) es) next
      → HaveLabels (IsReady (length factors) most) next
  step-ready most next small ready is a =
      labels_gained label_laws same_pair [] (replaced (conversion factors (suc most)) es) next is a (IsReady (length factors) most)
      (λ t m. absurd m)
      (labels_replaced (conversion factors (suc most)) (IsReady (length factors) most) es (λ t m. ready-conversion most factors t.0 small (ready t m)))

  module _ (ready : HaveLabels (IsReady (length factors) 1) es) where
    pub end-value : (family : Family) (n : ℕ) (φ : List ℕ → ℤ) (end : WholeTerms) → ArePowerSums family factors → Gains [] (replaced (in_target factors) es) end
        → over (target_value family n φ) end ≡ over (product_value family n φ) es
    end-value family n φ end are a = search (rules, replaced-value, value-target)

    end-gained : AreSmall factors → mass (replaced (in_target factors) es) ≤ weighed cost es
    end-gained small =
        let w = weighed_images (in_target factors) (λ x. 1) cost es (λ t m. mass-target factors t.0 small (ready t m)) in
        let u = mass_within-weighed (λ x. 1) (λ x. omega arith) (replaced (in_target factors) es) in
        omega arith

    pub end-mass : (end : WholeTerms) → AreSmall factors → IsWholeTable end → Gains [] (replaced (in_target factors) es) end → mass end ≤ weighed cost es
    end-mass end small is a =
        let g = gains_mass same_partition nat_list_eq_equiv [] (replaced (in_target factors) es) end is a in
        let s = end-gained small in
        omega arith

    pub end-large : AreSmall factors → Overflows same_label [] (replaced (in_target factors) es) → 2 ^ 127 ≤ weighed cost es
    end-large small o = let m = overflow_mass same_label [] (replaced (in_target factors) es) o in let s = end-gained small in omega arith

    pub end-low : (end : WholeTerms) → AreSmall factors → IsWholeTable end → Gains [] (replaced (in_target factors) es) end → AreWithin (length factors) end
    end-low end small is a =
        labels_gained nat_list_eq_equiv same_partition [] (replaced (in_target factors) es) end is a (λ label. size label ≤ length factors)
        (λ t m. absurd m)
        (labels_replaced (in_target factors) (λ label. size label ≤ length factors) es (λ t m. low-target (length factors) factors t.0 small refl (ready t m)))
