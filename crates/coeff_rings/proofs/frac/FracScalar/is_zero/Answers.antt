use Rattle.coeff_rings.proofs.Sizes.{zero-tells}
use Rattle.coeff_rings.proofs.frac.FracScalar.is_zero.Goals as goal

pub returns-clause-zero : goal.returns-clause-zero
returns-clause-zero c = zero-tells c.self.inside.num c.self.inside.den c.args.self.now
    c.self.invariant c.self.view_is
