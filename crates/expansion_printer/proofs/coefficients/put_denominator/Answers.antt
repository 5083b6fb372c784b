use Rattle.std.proofs.Common.{sym, [], ◌∷◌, ◌==◌}
use Rattle.std.specs.Prelude.{decimal}
use Rattle.std.proofs.lemmas.Bool.{ne_eqb, cond-false}
use Rattle.expansion_printer.proofs.GatheringLaws.{Gathers-then, Gathers-as}
use Rattle.expansion_printer.proofs.coefficients.put_denominator.Goals as goal

pub returns : goal.returns
returns g c =
    Gathers-as (sym (cond-false (c.args.den == 1) [] (47 ∷ decimal c.args.den)
    (ne_eqb c.args.den 1 c.if-den-eq1.false)))
    (Gathers-then c.put_byte.ensures c.put_number.ensures)
