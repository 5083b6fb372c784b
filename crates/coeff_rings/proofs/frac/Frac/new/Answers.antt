use Rattle.std.proofs.Common.{sym, subst, to_z-of_z, Option, IfSome}
use Rattle.sym_model.specs.Expansion.{Fraction}
use Rattle.fraction_laws.specs.Checked.{IsFraction}
use Rattle.coeff_rings.proofs.Sizes.{new-steps, checked_fraction_of-held}
use Rattle.coeff_rings.proofs.frac.Frac.new.Goals as goal

pub returns : goal.returns
returns c =
    let is = new-steps c.args.num c.args.den c.differ_in_sign.result c.unsigned_abs.result
    c.unsigned_abs-2.result c.reduced.result c.if-den-eq0.false
    (rw (to_z-of_z c.ranges.num, to_z-of_z c.ranges.den) at c.differ_in_sign.ensures)
    (rw (to_z-of_z c.ranges.num) at c.unsigned_abs.ensures.value)
    (rw (to_z-of_z c.ranges.den) at c.unsigned_abs-2.ensures.value)
    c.reduced.ensures in
    record {
      value = is;
      held = subst (λ (o : Option Fraction). IfSome o IsFraction) (sym is)
          (checked_fraction_of-held c.args.num c.args.den);
    }
