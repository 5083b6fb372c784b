use Rattle.std.proofs.Common.{◌≡◌, ℕ, ◌++◌, [], map}
use Rattle.std.specs.Map.Iter.{deref_pair}
use Rattle.std.specs.Prelude.{nat_eq}
use Rattle.std.specs.Cmp.Lexicographic.{pointwise}
use Rattle.sym_model.specs.LabelLimits.{is_monomial_label}
use Rattle.monomial_laws.specs.ExpressionTerms.{over}
use Rattle.sparse_polys.specs.Combination.{terms_of}
use Rattle.linear_combinations.specs.Cleared.{IsCommonDenominator, GainsCleared}
use Rattle.sparse_polys.specs.Products.{times_variable, AreRaised}
use Rattle.sparse_polys.proofs.products.times_var.Given as goal

-- the list has the products of x_r and the terms visited so far, and no other terms
abbrev pub invariant-loop-monomial : goal.invariant-loop-monomial
invariant-loop-monomial g l = record {
  gains :
      (q : ℕ) → IsCommonDenominator q (terms_of g.R.Scalar.value l.fn.list)
      → GainsCleared (pointwise nat_eq) is_monomial_label q []
      (times_variable l.r (over q (terms_of g.R.Scalar.value (map deref_pair l.yielded))))
      (terms_of g.R.Scalar.value l.product);
  labels : AreRaised l.r (terms_of g.R.Scalar.value (map deref_pair l.yielded))
      (terms_of g.R.Scalar.value l.product);
  so_far : map deref_pair l.yielded ++ l.monomial-iterator ≡ l.initial.monomial-iterator;
}
