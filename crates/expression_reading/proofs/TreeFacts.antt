-- Every expression has a nesting of at least 1: the nesting is 1 for a number, a fraction or an atom (a basis element), and otherwise 1 more than the
-- greatest nesting of an operand.
use Rattle.std.proofs.Common.{◌≤◌, arith}
use Rattle.sym_model.specs.Expression.{Tree, number, fraction, atom, negation, sum, difference, product, nesting}

pub nesting-positive : (e : Tree) → 1 ≤ nesting e
nesting-positive (number a) = omega arith
nesting-positive (fraction a b) = omega arith
nesting-positive (atom basis parts) = omega arith
nesting-positive (negation e) = omega arith
nesting-positive (sum e f) = omega arith
nesting-positive (difference e f) = omega arith
nesting-positive (product e f) = omega arith
