use Rattle.expansion_printer.proofs.GatheringLaws.{Gathers-then, Gathers-prints}
use Rattle.expansion_printer.proofs.refusal.print_offence.Goals as goal

pub returns : goal.returns
returns g c =
    Gathers-prints c.finish.result c.new-text.ensures
    (Gathers-then c.put.ensures
    (Gathers-then c.put-2.ensures
    (Gathers-then c.put_byte.ensures
    (Gathers-then c.put_number.ensures
    (Gathers-then c.put_byte-2.ensures (Gathers-then c.put_number-2.ensures c.put_byte-3.ensures))))))
    c.finish.ensures
