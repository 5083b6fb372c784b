-- The weight of an expression for the target bases m and s.
use Rattle.std.proofs.Common.{◌*◌, ◌^◌, ◌≤◌, ℕ, zero, suc, subst, arith}
use Rattle.std.specs.Prelude.{◌≡◌}
use Rattle.sym_model.specs.Expansion.{monomials, schurs}
use Rattle.sym_model.specs.Expression.{Tree, degree, denominator}
use Rattle.sym_model.specs.Weight.{growth, numerator, weight}

same_growth : (d : ℕ) → growth monomials d ≡ growth schurs d
same_growth zero = omega arith
same_growth (suc d) = omega arith

-- if the weight of e for the target basis m is at least 2^127, so is the weight of e for the target basis s
pub heavy_for_s : (e : Tree) → 2 ^ 127 ≤ weight monomials e → 2 ^ 127 ≤ weight schurs e
heavy_for_s e h = subst (λ g. 2 ^ 127 ≤ numerator e * denominator e * g) (same_growth (degree e)) h
