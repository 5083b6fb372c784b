-- Multiples and sums of tables with integer coefficients, as polynomials given by lists of terms. A *table* is a list of terms in which each label, a
-- partition, occurs once, with a coefficient that is not 0.
--     Same-multiple, Same-sum        the table computed as a multiple of a table, or as a sum of two tables, is this multiple or sum as a polynomial
--     large_product, large_sum       if the checked multiple or sum is None, the exact one has a coefficient of absolute value 2^127 or more
use Rattle.std.proofs.Common.{◌≡◌, ◌^◌, ◌≤◌, Bool, true, false, sym, ◌∙◌, ap, ap₂, subst, refl, arith, ℤ, pos, ◌+ℤ◌, ◌*ℤ◌, rules}
use Rattle.std.specs.Prelude.{nat_abs, FitsSigned}
use Rattle.std.specs.Int.{w128}
use Rattle.fraction_laws.specs.Checked.{checked_i128}
use Rattle.coeff_rings.proofs.Sizes.{refused_size}
use Rattle.sym_model.specs.Partition.{IsPartition}
use Rattle.sym_model.specs.Polynomial.{Same, coefficient, plus, scale}
use Rattle.sym_model.specs.LabelLimits.{is_label}
use Rattle.sym_model.specs.WholeTerms.{WholeTerms}
use Rattle.sym_model.proofs.Orders.{is_label-tells}
use Rattle.sym_model.proofs.Polynomials.{coefficient_plus, coefficient_scale, plus_respects, Same_trans}
use Rattle.linear_combinations.specs.Entries.{coefficient as look_up, IsMultipleOf, IsSumOf, RefusesSomeSum, RefusesSomeProduct}
use Rattle.linear_combinations.proofs.Found.{coefficient_found, coefficient_of_term}
use Rattle.sparse_polys.specs.Tables.{equal, IsWholeTable}
use Rattle.sparse_polys.specs.Large.{HasLarge}
use Rattle.sparse_polys.proofs.WholeLists.{coefficient-no_label, label-partition}
use lib.IntN.{*ℤ_comm}
use Rattle.sym_model.proofs.PolynomialLaws.{plus_comm}

pub Same-multiple : (old new : WholeTerms) (q : ℤ) → IsWholeTable old → IsWholeTable new → IsMultipleOf equal (pos 0) ◌*ℤ◌ old q new → Same new (scale q old)
Same-multiple old new q is also multiples l = search (rules, coefficient_found, multiples, *ℤ_comm, coefficient_scale)

pub Same-sum : (first second sum : WholeTerms) → IsWholeTable first → IsWholeTable second → IsWholeTable sum → IsSumOf equal (pos 0) ◌+ℤ◌ first second sum
    → Same sum (plus first second)
Same-sum first second sum is js also sums l = search (rules, coefficient_found, coefficient_plus)

pub large_product : (old : WholeTerms) (q : ℤ) → IsWholeTable old
    → RefusesSomeProduct (FitsSigned w128) (λ (x y : ℤ). checked_i128 (x *ℤ y)) old q → HasLarge (scale q old)
large_product old q is (t, m, r) = record {
  label = t.0;
  partition = label-partition old is t m;
  large = subst (λ z. 2 ^ 127 ≤ nat_abs z)
      (*ℤ_comm t.1 q ∙ ap (λ z. q *ℤ z) (sym (coefficient_of_term old is.distinct t m)) ∙ sym (coefficient_scale q old t.0))
      (refused_size (t.1 *ℤ q) r.refused);
}

pub large_sum : (first second : WholeTerms) → IsWholeTable first → IsWholeTable second
    → RefusesSomeSum equal (pos 0) (FitsSigned w128) (λ (x y : ℤ). checked_i128 (x +ℤ y)) first second → HasLarge (plus first second)
large_sum first second is js (label, r) =
    let sum =
    ap₂ ◌+ℤ◌ (sym (coefficient_found first is.distinct label)) (sym (coefficient_found second js.distinct label)) ∙ sym (coefficient_plus first second label) in
    let size : 2 ^ 127 ≤ nat_abs (coefficient (plus first second) label) = subst (λ z. 2 ^ 127 ≤ nat_abs z) sum (refused_size (look_up equal (pos 0) first label +ℤ look_up equal (pos 0) second label) r.refused) in
    record { label = label; partition = by (is_label label) refl size; large = size }
  where
    by : (t : Bool) → is_label label ≡ t → 2 ^ 127 ≤ nat_abs (coefficient (plus first second) label) → IsPartition label
    by true e size = (is_label-tells label e).partition
    by false e size =
        absurd
        (let none = ap nat_abs
        (coefficient_plus first second label ∙ ap₂ ◌+ℤ◌ (coefficient-no_label first is label e) (coefficient-no_label second js label e)) in
        omega arith)

pub HasLarge_respects : (A B : WholeTerms) → Same A B → HasLarge A → HasLarge B
HasLarge_respects A B h x = record { label = x.label; partition = x.partition; large = subst (λ z. 2 ^ 127 ≤ nat_abs z) (h x.label) x.large }

module _ (left right first second : WholeTerms) (p q : ℤ) (is : IsWholeTable left) (js : IsWholeTable right) (f : IsWholeTable first) (s : IsWholeTable second)
    (h : IsMultipleOf equal (pos 0) ◌*ℤ◌ left p first) (k : IsMultipleOf equal (pos 0) ◌*ℤ◌ right q second) where
  multiples : Same (plus first second) (plus (scale p left) (scale q right))
  multiples =
      plus_respects first (scale p left) second (scale q right) (Same-multiple left first p is f h) (Same-multiple right second q js s k)

  pub Same-sum_of : (sum : WholeTerms) → IsWholeTable sum → IsSumOf equal (pos 0) ◌+ℤ◌ first second sum → Same sum (plus (scale p left) (scale q right))
  Same-sum_of sum t e = Same_trans sum (plus first second) (plus (scale p left) (scale q right)) (Same-sum first second sum f s t e) multiples

  pub Same-sum_swapped : (sum : WholeTerms) → IsWholeTable sum → IsSumOf equal (pos 0) ◌+ℤ◌ second first sum → Same sum (plus (scale p left) (scale q right))
  Same-sum_swapped sum t e l = Same-sum second first sum s f t e l ∙ plus_comm second first l ∙ multiples l

  pub large_sum_of : RefusesSomeSum equal (pos 0) (FitsSigned w128) (λ (x y : ℤ). checked_i128 (x +ℤ y)) first second
      → HasLarge (plus (scale p left) (scale q right))
  large_sum_of refused = HasLarge_respects (plus first second) (plus (scale p left) (scale q right)) multiples (large_sum first second f s refused)

  pub large_sum_swapped : RefusesSomeSum equal (pos 0) (FitsSigned w128) (λ (x y : ℤ). checked_i128 (x +ℤ y)) second first
      → HasLarge (plus (scale p left) (scale q right))
  large_sum_swapped refused =
      HasLarge_respects (plus second first) (plus (scale p left) (scale q right)) (λ l. plus_comm second first l ∙ multiples l)
      (large_sum second first s f refused)
