use Rattle.std.proofs.Common.{◌≡◌, ℕ, ◌*◌, ◌++◌, [], map}
use Rattle.std.specs.Map.Iter.{deref_pair}
use Rattle.std.specs.Prelude.{nat_eq}
use Rattle.std.specs.Cmp.Lexicographic.{pointwise}
use Rattle.sym_model.specs.Canonical.{is_label}
use Rattle.monomial_laws.specs.ExpressionTerms.{over}
use Rattle.sparse_polys.specs.Combination.{terms_of}
use Rattle.sparse_polys.specs.MonomialProducts.{products}
use Rattle.linear_combinations.specs.Cleared.{IsCommonDenominator, GainsCleared}
use Rattle.sparse_polys.proofs.expansion_products.cleared_product.Given as goal

-- the terms added to `sum` so far are the products of `right` and the terms of `left` visited so far
abbrev pub invariant-loop-label : goal.invariant-loop-label
invariant-loop-label g l = record {
  gains :
      (d e : ℕ) → IsCommonDenominator d (terms_of g.R.Scalar.value l.left)
      → IsCommonDenominator e (terms_of g.R.Scalar.value l.right)
      → GainsCleared (pointwise nat_eq) is_label (d * e) []
      (products (over d (terms_of g.R.Scalar.value (map deref_pair l.yielded)))
      (over e (terms_of g.R.Scalar.value l.right))) (terms_of g.R.Scalar.value l.sum);
  so_far : map deref_pair l.yielded ++ l.label-iterator ≡ l.initial.label-iterator;
}
