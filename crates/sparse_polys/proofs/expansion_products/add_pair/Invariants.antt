use Rattle.std.proofs.Common.{ℕ, ◌*◌, take, ◌*ℤ◌}
use Rattle.std.specs.Prelude.{nat_eq}
use Rattle.std.specs.Cmp.Lexicographic.{pointwise}
use Rattle.sym_model.specs.Canonical.{is_label}
use Rattle.fraction_laws.specs.Fractions.{scaled}
use Rattle.linear_combinations.specs.Gains.{scaled as multiple}
use Rattle.linear_combinations.specs.Cleared.{IsDenominator, AreCleared, GainsCleared}
use Rattle.sparse_polys.specs.Combination.{terms_of}
use Rattle.sparse_polys.proofs.ProductLists.{counted_terms}
use Rattle.sparse_polys.proofs.expansion_products.add_pair.Given as goal

-- the terms added to `sum` so far are `left`·`right` times the entries visited so far (`GainsCleared`)
abbrev pub invariant-loop-term : goal.invariant-loop-term
invariant-loop-term g l =
    (d e : ℕ) → IsDenominator d (g.R.Scalar.value l.left) × IsDenominator e
    (g.R.Scalar.value l.right)
    → AreCleared (pointwise nat_eq) (d * e) (terms_of g.R.Scalar.value l.fn.sum)
    → GainsCleared (pointwise nat_eq) is_label (d * e) (terms_of g.R.Scalar.value l.fn.sum)
    (multiple (scaled d (g.R.Scalar.value l.left) *ℤ scaled e (g.R.Scalar.value l.right))
    (counted_terms (take l.term-index l.entries))) (terms_of g.R.Scalar.value l.sum)
