use Rattle.std.proofs.Common.{to_z-of_z}
use Rattle.fraction_laws.proofs.FractionAnswers.{IsFraction-whole}
use Rattle.coeff_rings.proofs.frac.FracRing.from_whole.Goals as goal

pub invariant_of-result : goal.invariant_of-result
invariant_of-result c = rw (to_z-of_z c.ranges.v) (IsFraction-whole c.args.v c.ranges.v)

pub returns-clause-held : goal.returns-clause-held
returns-clause-held c = rw (to_z-of_z c.ranges.v) (IsFraction-whole c.args.v c.ranges.v)
