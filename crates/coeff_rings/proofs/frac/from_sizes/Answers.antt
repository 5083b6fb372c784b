use Rattle.std.proofs.Common.{rules, arith, ◌<◌, ◌^◌, FitsSigned, to_z-of_z, subst, sym}
use Rattle.std.specs.Int.{w128}
use Rattle.coeff_rings.specs.Signs.{signed}
use Rattle.coeff_rings.proofs.Sizes.{checked_i128-some, IsFraction-sizes}
use Rattle.coeff_rings.proofs.frac.from_sizes.Goals as goal

pub invariant_of-result : goal.invariant_of-result
invariant_of-result c =
    let parts = checked_i128-some (signed c.args.negative c.args.num) c.in_ok-num.num (search rules)
    in
    let fits : FitsSigned w128 c.in_ok-num.num = subst (FitsSigned w128) (sym parts.0) parts.1 in
    let small : c.args.den < 2 ^ 127 = omega arith in
    rw (to_z-of_z fits) (IsFraction-sizes c.args.negative c.args.num c.args.den c.in_ok-num.num
    parts.0 fits c.requires.positive small c.requires.coprime)
