use Rattle.std.proofs.Common.{◌≡◌, ℕ, ◌*◌, ◌++◌, [], map}
use Rattle.std.specs.Map.Iter.{deref_pair}
use Rattle.std.specs.Prelude.{nat_eq}
use Rattle.std.specs.Cmp.Lexicographic.{pointwise}
use Rattle.sym_model.specs.LabelLimits.{is_label}
use Rattle.sym_model.specs.WholeTerms.{WholeTerms}
use Rattle.basis_expand.specs.SchurLists.{ComeTo, products_at}
use Rattle.linear_combinations.specs.Cleared.{IsCommonDenominator, GainsCleared}
use Rattle.basis_expand.proofs.schur_products.product.Given as goal

-- the products of `right` with the terms of `left` that the loop has visited have been added to `sum`; the visited terms, followed by the other
-- terms, are all terms of `left`
abbrev pub invariant-loop-label : goal.invariant-loop-label
invariant-loop-label l = record {
  sums :
      (d e : ℕ) → IsCommonDenominator d l.left → IsCommonDenominator e l.right
      → (gained : WholeTerms)
      × ComeTo gained (λ n φ. products_at d (map deref_pair l.yielded) e l.right n φ)
      × GainsCleared (pointwise nat_eq) is_label (d * e) [] gained l.sum;
  so_far : map deref_pair l.yielded ++ l.label-iterator ≡ l.initial.label-iterator;
}
