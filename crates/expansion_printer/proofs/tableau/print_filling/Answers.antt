use Rattle.expansion_printer.proofs.GatheringLaws.{Gathers-then, Gathers-prints}
use Rattle.expansion_printer.proofs.tableau.print_filling.Goals as goal

pub returns : goal.returns
returns g c =
    Gathers-prints c.finish.result c.new-text.ensures
    (Gathers-then c.put_rows.ensures c.put_byte.ensures) c.finish.ensures
