use Rattle.expansion_printer.proofs.GatheringLaws.{Gathers-then, Gathers-prints}
use Rattle.expansion_printer.proofs.words.print_shapes.Goals as goal

pub returns : goal.returns
returns g c =
    Gathers-prints c.finish.result c.new-text.ensures
    (Gathers-then c.put_shapes.ensures c.put_byte.ensures) c.finish.ensures
