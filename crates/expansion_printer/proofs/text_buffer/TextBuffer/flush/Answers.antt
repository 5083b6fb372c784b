use Rattle.calc_base.proofs.PutsLaws.{Puts-as}
use Rattle.expansion_printer.proofs.GatheringLaws.{Gathers-flushed, Gathers-from}
use Rattle.expansion_printer.proofs.text_buffer.TextBuffer.flush.Goals as goal

pub returns-clause-goes : goal.returns-clause-goes
returns-clause-goes g c =
    Gathers-from c.self.view_is
    (Gathers-flushed c.clear.ensures
    (Puts-as c.as_slice.ensures.value c.put_if-self-inside.ensures.goes))
