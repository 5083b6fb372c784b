use Rattle.std.proofs.Common.{◌≡◌, ◌+◌, ◌-◌, ℕ, List, subst, arith, rules}
use Rattle.sym_model.specs.Partition.{size}
use Rattle.skew_shapes.proofs.CellCounts.{length-cells}
use Rattle.skew_shapes.proofs.skew.Skew.cells.Goals as goal

pub overflow_sub-result : goal.overflow_sub-result
overflow_sub-result c = search (rules, length-cells)

pub returns-clause-value : goal.returns-clause-value
returns-clause-value c = search (rules, length-cells)

pub returns-clause-sizes : goal.returns-clause-sizes
returns-clause-sizes c =
    let here : c.size.result - c.size-2.result + size c.self.inside.inner ≡ size c.self.inside.outer
    =
    omega (
      arith,
      length-cells c.self.inside.outer c.self.inside.inner c.self.invariant,
      c.size.ensures.value,
      c.size-2.ensures.value,
    ) in
    subst (λ (v : List ℕ × List ℕ). c.size.result - c.size-2.result + size v.1 ≡ size v.0)
    c.self.view_is here
