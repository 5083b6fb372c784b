-- The *weight* of an expression for a target basis bounds every number in the conversion of the expression into this basis. The weight for the target
-- basis m is at most the weight for any other target basis.
use Rattle.std.proofs.Common.{◌*◌, ◌^◌, ◌≤◌, ℕ, zero, suc, arith}
use Rattle.std.proofs.Math.Nat.{mul-le-mul_left}
use Rattle.monomial_laws.proofs.Growths.{growth-most}
use Rattle.sym_model.specs.Expansion.{Basis, monomials, elementaries, completes, power_sums, schurs}
use Rattle.sym_model.specs.Expression.{Tree, degree, denominator}
use Rattle.sym_model.specs.Weight.{numerator, growth, weight}

least_growth : (b : Basis) (d : ℕ) → growth monomials d ≤ growth b d
least_growth b zero = omega arith
least_growth monomials (suc d) = omega arith
least_growth schurs (suc d) = omega arith
least_growth elementaries (suc d) = growth-most monomials (suc d)
least_growth completes (suc d) = growth-most monomials (suc d)
least_growth power_sums (suc d) = growth-most monomials (suc d)

pub heavy_for_m : (b : Basis) (e : Tree) → 2 ^ 127 ≤ weight monomials e → 2 ^ 127 ≤ weight b e
heavy_for_m b e h = omega (arith, h, mul-le-mul_left (numerator e * denominator e) (least_growth b (degree e)))
