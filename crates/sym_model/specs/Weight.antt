-- The weight of an expression, which bounds every number in its conversion into a basis.
use Rattle.std.specs.Prelude.{ℕ, zero, suc, ◌+◌, ◌*◌, ◌/◌, ◌^◌, max}
use Rattle.sym_model.specs.Expansion.{Basis, monomials, schurs}
use Rattle.sym_model.specs.Expression.{Tree, number, fraction, atom, negation, sum, difference}
use Rattle.sym_model.specs.Expression.{product, degree, denominator, lcm}

-- N, a bound for an expression e with the denominator D: if D·e is multiplied out into a sum of products of basis
-- elements, the absolute values of its coefficients add up to at most N
abbrev pub numerator : Tree → ℕ
numerator (number a) = max 1 a
numerator (fraction a b) = max 1 a
numerator (atom basis parts) = 1
numerator (negation e) = numerator e
numerator (sum e f) =
    let q = lcm (denominator e) (denominator f) in
    numerator e * (q / denominator e) + numerator f * (q / denominator f)
numerator (difference e f) =
    let q = lcm (denominator e) (denominator f) in
    numerator e * (q / denominator e) + numerator f * (q / denominator f)
numerator (product e f) = numerator e * numerator f

-- d!
abbrev pub factorial : ℕ → ℕ
factorial zero = 1
factorial (suc d) = suc d * factorial d

-- B, a bound of the factor by which a conversion into the basis `target` can increase the coefficients of a list of
-- terms of degree d: 1 at degree 0; otherwise d^d for m and s, and d!·(2d)^d for p, h and e
abbrev pub growth : Basis → ℕ → ℕ
growth target zero = 1
growth monomials (suc d) = suc d ^ suc d
growth schurs (suc d) = suc d ^ suc d
growth target (suc d) = factorial (suc d) * (2 * suc d) ^ suc d

-- the weight of an expression e that is to be converted into the basis `target`: N·D·B, with N = `numerator e`, D its
-- denominator, and B = `growth` at its degree
abbrev pub weight : Basis → Tree → ℕ
weight target e = numerator e * denominator e * growth target (degree e)
