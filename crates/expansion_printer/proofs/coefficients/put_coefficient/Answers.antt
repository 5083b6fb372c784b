use Rattle.std.proofs.Common.{◌≡◌, ◌∙◌, ap, nat_abs, to_z-of_z}
use Rattle.expansion_printer.proofs.GatheringLaws.{Gathers-then, Gathers-as}
use Rattle.expansion_printer.proofs.LineTexts.{coefficient-printed}
use Rattle.expansion_printer.proofs.coefficients.put_coefficient.Goals.{else-size-eq1-via-then-size-eq1+else-den-eq1}
use Rattle.expansion_printer.proofs.coefficients.put_coefficient.Goals.{else-size-eq1-via-else-size-eq1}
use Rattle.expansion_printer.proofs.coefficients.put_coefficient.Goals as goal

pub returns : goal.returns
returns g c =
    let size = c.unsigned_abs-size.result in
    let is : size ≡ nat_abs c.args.num = c.unsigned_abs-size.ensures.value ∙ ap nat_abs
    (to_z-of_z c.ranges.num) in
    let other : size ≡ 1 → c.args.den ≡ 1 → ⊥ = elim c.else-size-eq1.branch [
      | else-size-eq1-via-then-size-eq1+else-den-eq1 w ↦ (λ e f. w.if-den-eq1.false f)
      | else-size-eq1-via-else-size-eq1 w ↦ (λ e f. w.if-size-eq1.false e)
    ] in
    Gathers-as (coefficient-printed c.args.num c.args.den size is other)
    (Gathers-then c.put_number.ensures (Gathers-then c.put_denominator.ensures c.put_byte.ensures))
