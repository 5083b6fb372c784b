use Rattle.std.proofs.Common.{arith, sym, ◌∙◌}
use Rattle.sym_model.proofs.GreatestCommonDivisors.{gcd-step}
use Rattle.coeff_rings.proofs.divisors.gcd.Goals as goal

pub loop-b-preserved : goal.loop-b-preserved
loop-b-preserved c = sym (gcd-step c.loop-b.a c.loop-b.b (omega arith)) ∙ c.loop-b.invariant
