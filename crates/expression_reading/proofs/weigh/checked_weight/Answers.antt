use Rattle.std.proofs.Common.{arith}
use Rattle.expression_reading.specs.Trees.{basis_of, tree_of}
use Rattle.expression_reading.proofs.WeightFacts.{positive}
use Rattle.expression_reading.proofs.GrowthFacts.{wide-weight, high-weight, wide-product}
use Rattle.expression_reading.proofs.weigh.checked_weight.Goals as goal

pub returns-in_err-numbers : goal.returns-in_err-numbers
returns-in_err-numbers c =
    rw c.from_residual.ensures
    (wide-weight (basis_of c.args.target) (tree_of c.args.tree.now)
    (positive c.args.tree.now c.requires.plain) c.in_err-numbers.ensures)

pub returns-in_err-growth : goal.returns-in_err-growth
returns-in_err-growth c =
    rw c.from_residual-in_err-growth.ensures
    (high-weight (basis_of c.args.target) (tree_of c.args.tree.now)
    (positive c.args.tree.now c.requires.plain)
    (omega (arith, rw c.requires.degree at c.in_err-growth.ensures)))

pub returns-in_err-checked_mul : goal.returns-in_err-checked_mul
returns-in_err-checked_mul c =
    let given = c.in_ok-numbers.ensures in
    rw c.from_residual-in_err-checked_mul.ensures
    (wide-product (basis_of c.args.target) (tree_of c.args.tree.now)
    (omega (arith, rw (given.0, given.1) at c.in_err-checked_mul.ensures)))
