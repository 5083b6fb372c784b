use Rattle.std.proofs.Common.{to_z-of_z}
use Rattle.fraction_laws.specs.Checked.{IsFraction}
use Rattle.fraction_laws.proofs.FractionAnswers.{IsFraction-negation}
use Rattle.coeff_rings.proofs.frac.FracRing.neg.Goals as goal

held : (c : goal.In_ok-num) → IsFraction (c.in_ok-num.num, c.self.inside.den)
held c = IsFraction-negation c.self.inside.num c.in_ok-num.num c.self.inside.den c.self.invariant
    c.in_ok-num.ensures.0 c.in_ok-num.ensures.1

pub invariant_of-result : goal.invariant_of-result
invariant_of-result c = rw (to_z-of_z (held c).fits) (held c)

pub returns-clause-held_negation : goal.returns-clause-held_negation
returns-clause-held_negation c = rw (to_z-of_z (held c).fits) (held c)
