use Rattle.std.proofs.Common.{◌≡◌, ℕ, ◌*◌, [], ◌∷◌, ◌++◌, map}
use Rattle.std.specs.Map.Iter.{deref_pair}
use Rattle.std.specs.Prelude.{nat_eq}
use Rattle.std.specs.Cmp.Lexicographic.{pointwise}
use Rattle.sym_model.specs.LabelLimits.{is_monomial_label}
use Rattle.sym_model.specs.Polynomial.{times}
use Rattle.monomial_laws.specs.ExpressionTerms.{over}
use Rattle.fraction_laws.specs.Fractions.{scaled}
use Rattle.sparse_polys.specs.Combination.{terms_of}
use Rattle.linear_combinations.specs.Cleared.{IsDenominator, IsCommonDenominator, AreCleared}
use Rattle.linear_combinations.specs.Cleared.{GainsCleared}
use Rattle.sparse_polys.proofs.products.add_row.Given as goal

-- the terms added to `sum` so far are the products of the term a·x^`left` with the terms of `right` visited so far
abbrev pub invariant-loop-monomial : goal.invariant-loop-monomial
invariant-loop-monomial g l = record {
  gains :
      (d e : ℕ) → IsDenominator d (g.R.Scalar.value l.a)
      → IsCommonDenominator e (terms_of g.R.Scalar.value l.right)
      → AreCleared (pointwise nat_eq) (d * e) (terms_of g.R.Scalar.value l.fn.sum)
      → GainsCleared (pointwise nat_eq) is_monomial_label (d * e)
      (terms_of g.R.Scalar.value l.fn.sum)
      (times ((l.left, scaled d (g.R.Scalar.value l.a)) ∷ [])
      (over e (terms_of g.R.Scalar.value (map deref_pair l.yielded))))
      (terms_of g.R.Scalar.value l.sum);
  so_far : map deref_pair l.yielded ++ l.monomial-iterator ≡ l.initial.monomial-iterator;
}
