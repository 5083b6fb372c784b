use Rattle.expansion_printer.proofs.GatheringLaws.{Gathers-then, Gathers-prints}
use Rattle.expansion_printer.proofs.block.print_after.Goals as goal

pub returns-clause-prints : goal.returns-clause-prints
returns-clause-prints g c = Gathers-prints c.finish.result c.new-text.ensures
    (Gathers-then c.put.ensures c.put_block.ensures.goes) c.finish.ensures
