use Rattle.std.proofs.Common.{◌≡◌, ℕ, ◌*◌, ◌++◌, map}
use Rattle.std.specs.Map.Iter.{deref_pair}
use Rattle.std.specs.Prelude.{nat_eq}
use Rattle.std.specs.Cmp.Lexicographic.{pointwise}
use Rattle.sym_model.specs.Canonical.{is_label}
use Rattle.fraction_laws.specs.Fractions.{scaled}
use Rattle.monomial_laws.specs.ExpressionTerms.{over}
use Rattle.linear_combinations.specs.Gains.{replaced, scaled as multiple}
use Rattle.sparse_polys.specs.Combination.{terms_of}
use Rattle.sparse_polys.specs.MonomialProducts.{product_terms}
use Rattle.linear_combinations.specs.Cleared.{IsDenominator, IsCommonDenominator, AreCleared}
use Rattle.linear_combinations.specs.Cleared.{GainsCleared}
use Rattle.sparse_polys.proofs.expansion_products.add_row.Given as goal

-- the terms added to `sum` so far are the products of `left`·m_`label` with the terms of `right` visited so far
abbrev pub invariant-loop-other : goal.invariant-loop-other
invariant-loop-other g l = record {
  gains :
      (d e : ℕ) → IsDenominator d (g.R.Scalar.value l.left)
      → IsCommonDenominator e (terms_of g.R.Scalar.value l.right)
      → AreCleared (pointwise nat_eq) (d * e) (terms_of g.R.Scalar.value l.fn.sum)
      → GainsCleared (pointwise nat_eq) is_label (d * e) (terms_of g.R.Scalar.value l.fn.sum)
      (multiple (scaled d (g.R.Scalar.value l.left))
      (replaced (product_terms l.label) (over e
      (terms_of g.R.Scalar.value (map deref_pair l.yielded))))) (terms_of g.R.Scalar.value l.sum);
  so_far : map deref_pair l.yielded ++ l.other-iterator ≡ l.initial.other-iterator;
}
