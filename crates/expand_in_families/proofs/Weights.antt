-- The weight of an expression for a target basis is a bound for the numbers in its expansion in this basis. If the weight for the target basis h is
-- 2^127 or more, so is the weight for each of the bases e, h and p.
use Rattle.std.proofs.Common.{◌*◌, ◌^◌, ◌≤◌, sym, subst}
use Rattle.sym_model.specs.Expansion.{completes}
use Rattle.sym_model.specs.Expression.{Tree, degree, denominator}
use Rattle.sym_model.specs.Weight.{numerator, weight}
use Rattle.sparse_polys.specs.declared.family.Family.{Family}
use Rattle.sparse_polys.specs.Families.{basis_in}
use Rattle.basis_change.proofs.Bounds.{same_growth}

pub heavy-in_target : (target : Family) (e : Tree) → 2 ^ 127 ≤ weight completes e → 2 ^ 127 ≤ weight (basis_in target) e
heavy-in_target target e h = subst (λ g. 2 ^ 127 ≤ numerator e * denominator e * g) (sym (same_growth target (degree e))) h
