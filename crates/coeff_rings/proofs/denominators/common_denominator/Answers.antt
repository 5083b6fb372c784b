use Rattle.std.proofs.Common.{◌<◌, sym, subst, arith}
use Rattle.sym_model.proofs.GreatestCommonDivisors.{gcd-positive}
use Rattle.coeff_rings.proofs.CommonMultiples.{common_denominator-is}
use Rattle.coeff_rings.proofs.denominators.common_denominator.Goals as goal

pub nonzero_div-from_left : goal.nonzero_div-from_left
nonzero_div-from_left c = subst (λ n. 0 < n) (sym c.gcd-divisor.ensures)
    (gcd-positive c.args.a c.args.b c.requires.left.0)

pub nonzero_div-from_right : goal.nonzero_div-from_right
nonzero_div-from_right c = subst (λ n. 0 < n) (sym c.gcd-divisor.ensures)
    (gcd-positive c.args.a c.args.b c.requires.left.0)

pub returns-clause-ok : goal.returns-clause-ok
returns-clause-ok c =
    common_denominator-is c.args.a c.args.b c.gcd-divisor.result c.in_ok-den.den c.requires.left.0
    c.requires.left.1 c.requires.right.0 c.requires.right.1
    c.gcd-divisor.ensures c.in_ok-den.ensures.1 (omega (arith, c.in_ok-den.ensures))
