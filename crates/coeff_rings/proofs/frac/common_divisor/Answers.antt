use Rattle.std.proofs.Common.{arith, sym}
use Rattle.std.proofs.lemmas.Nat.Gcd.{IsGcd-from_zero, IsGcd-from_mod}
use Rattle.fraction_laws.proofs.Divisors.{greatest_common_divisor-is, divisor_positive}
use Rattle.coeff_rings.proofs.frac.common_divisor.Goals as goal

pub loop-y-preserved : goal.loop-y-preserved
loop-y-preserved c g h = c.loop-y.invariant g (IsGcd-from_mod _ _ g h)

pub returns : goal.returns
returns c =
    let is = c.loop-y.invariant c.loop-y.x (IsGcd-from_zero c.loop-y.x c.loop-y.y (omega arith)) in
    record {
      greatest = sym (greatest_common_divisor-is c.args.a c.args.b c.loop-y.x is);
      divisor = is;
      positive = divisor_positive c.args.a c.args.b c.loop-y.x c.requires is;
    }
