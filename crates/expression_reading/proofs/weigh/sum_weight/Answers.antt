use Rattle.std.proofs.Common.{◌<◌, subst, sym}
use Rattle.sym_model.proofs.GreatestCommonDivisors.{gcd-positive}
use Rattle.expression_reading.proofs.weigh.sum_weight.Goals as goal

pub nonzero_div-from_a : goal.nonzero_div-from_a
nonzero_div-from_a c = subst (λ n. 0 < n) (sym c.gcd-common.ensures)
    (gcd-positive c.args.a.den c.args.b.den c.requires)

pub nonzero_div-from_b : goal.nonzero_div-from_b
nonzero_div-from_b c = subst (λ n. 0 < n) (sym c.gcd-common.ensures)
    (gcd-positive c.args.a.den c.args.b.den c.requires)
