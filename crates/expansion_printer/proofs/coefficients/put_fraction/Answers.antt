use Rattle.std.proofs.Common.{◌≡◌, ◌∙◌, true, ap, nat_abs, to_z-of_z}
use Rattle.std.specs.Prelude.{decimal}
use Rattle.expansion_printer.proofs.GatheringLaws.{Gathers-then, Gathers-as}
use Rattle.expansion_printer.specs.SignedTerms.{sign_text}
use Rattle.expansion_printer.proofs.LineTexts.{fraction-printed}
use Rattle.expansion_printer.proofs.coefficients.put_fraction.Goals as goal

pub returns : goal.returns
returns g c =
    let num = to_z-of_z c.ranges.num in
    let size : c.unsigned_abs.result ≡ nat_abs c.args.num = c.unsigned_abs.ensures.value
    ∙ ap nat_abs num in
    Gathers-as (fraction-printed c.args.num c.args.den)
    (Gathers-then (Gathers-as (ap (sign_text true) num) c.put_sign.ensures)
    (Gathers-then (Gathers-as (ap decimal size) c.put_number.ensures) c.put_denominator.ensures))
