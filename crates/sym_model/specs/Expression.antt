-- Expressions of symmetric functions: their trees, degrees and denominators, and the value of a tree with its
-- denominators cleared.
use Rattle.std.specs.Prelude.{ℕ, ◌+◌, ◌*◌, ◌/◌, pos, max, List}
use Rattle.sym_model.specs.Polynomial.{Poly, one, plus, scale, negate, times}
use Rattle.sym_model.specs.Partition.{size}
use Rattle.sym_model.specs.Expansion.{Basis, basis_polynomial}
use Rattle.sym_model.specs.Canonical.{gcd}

-- an expression: a number, a fraction that need not be in lowest terms, a partition in a basis, or a negation, a
-- sum, a difference or a product of expressions
pub data Tree : Type 0 where
  number : ℕ → Tree
  fraction : ℕ → ℕ → Tree
  atom : Basis → List ℕ → Tree
  negation : Tree → Tree
  sum : Tree → Tree → Tree
  difference : Tree → Tree → Tree
  product : Tree → Tree → Tree

-- the degree of an expression: 0 for a number or a fraction, the size of the partition for an atom (a basis element),
-- the degree of the operand for a negation, the greater of the two degrees for a sum or a difference, and the sum of
-- the two degrees for a product
abbrev pub degree : Tree → ℕ
degree (number a) = 0
degree (fraction a b) = 0
degree (atom basis parts) = size parts
degree (negation e) = degree e
degree (sum e f) = max (degree e) (degree f)
degree (difference e f) = max (degree e) (degree f)
degree (product e f) = degree e + degree f

-- the nesting of an expression: 1 for a number, a fraction or an atom (a basis element), and otherwise 1 more than the
-- greatest nesting of an operand
abbrev pub nesting : Tree → ℕ
nesting (number a) = 1
nesting (fraction a b) = 1
nesting (atom basis parts) = 1
nesting (negation e) = nesting e + 1
nesting (sum e f) = max (nesting e) (nesting f) + 1
nesting (difference e f) = max (nesting e) (nesting f) + 1
nesting (product e f) = max (nesting e) (nesting f) + 1

-- the least common multiple of a and b
abbrev pub lcm : ℕ → ℕ → ℕ
lcm a b = a / gcd a b * b

-- a common denominator of the coefficients of an expression: 1 for a number or an atom (a basis element), b for a
-- fraction a/b, the denominator of the operand for a negation, the least common multiple of the denominators of both
-- operands for a sum or a difference, and their product for a product
abbrev pub denominator : Tree → ℕ
denominator (number a) = 1
denominator (fraction a b) = b
denominator (atom basis parts) = 1
denominator (negation e) = denominator e
denominator (sum e f) = lcm (denominator e) (denominator f)
denominator (difference e f) = lcm (denominator e) (denominator f)
denominator (product e f) = denominator e * denominator f

-- the polynomial in n variables that is the value of the expression e times its common denominator `denominator e`
abbrev pub cleared_value : Tree → ℕ → Poly
cleared_value (number a) n = scale (pos a) (one n)
cleared_value (fraction a b) n = scale (pos a) (one n)
cleared_value (atom basis parts) n = basis_polynomial basis parts n
cleared_value (negation e) n = negate (cleared_value e n)
cleared_value (sum e f) n =
    let q = lcm (denominator e) (denominator f) in
    plus (scale (pos (q / denominator e)) (cleared_value e n))
    (scale (pos (q / denominator f)) (cleared_value f n))
cleared_value (difference e f) n =
    let q = lcm (denominator e) (denominator f) in
    plus
    (scale (pos (q / denominator e)) (cleared_value e n))
    (negate (scale (pos (q / denominator f)) (cleared_value f n)))
cleared_value (product e f) n = times (cleared_value e n) (cleared_value f n)
