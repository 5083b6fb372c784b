use Rattle.std.proofs.Common.{◌≡◌, ◌≤◌, ℕ, ℤ, List, length}
use Rattle.linear_combinations.specs.Gains.{HaveLabels, over}
use Rattle.sparse_polys.specs.declared.family.Family.{Family}
use Rattle.basis_change.specs.AugmentedProducts.{IsReady}
use Rattle.basis_change.specs.Factors.{product_value, ArePowerSums}
use Rattle.basis_change.specs.Costs.{cost}
use Rattle.linear_combinations.specs.Gains.{weighed}
use Rattle.basis_change.proofs.rewriting.converted.Given as goal

abbrev pub invariant-loop-rows : goal.invariant-loop-rows
invariant-loop-rows l = record {
  value : (family : Family) → ArePowerSums family l.factors → (n : ℕ) (φ : List ℕ → ℤ) → over (product_value family n φ) l.table ≡ over (product_value family n φ) l.fn.start;
  costs : weighed cost l.table ≤ weighed cost l.fn.start;
  ready : HaveLabels (IsReady (length l.factors) l.rows) l.table;
}

abbrev pub decreases-loop-rows : goal.decreases-loop-rows
decreases-loop-rows l = l.rows
