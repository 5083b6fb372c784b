use Rattle.std.proofs.Common.{sym, ◌∷◌, ◌==◌}
use Rattle.std.specs.Prelude.{decimal}
use Rattle.std.proofs.lemmas.Bool.{ne_eqb, cond-false}
use Rattle.expansion_printer.proofs.GatheringLaws.{Gathers-then, Gathers-as}
use Rattle.expansion_printer.proofs.numbers.put_piece.Goals as goal

pub returns : goal.returns
returns g c =
    let text = decimal c.args.number in
    Gathers-as (sym (cond-false (c.args.at == 0) text (c.args.separator ∷ text)
    (ne_eqb c.args.at 0 c.if-at-eq0.false)))
    (Gathers-then c.put_byte.ensures c.put_number-2.ensures)
