use Rattle.calc_base.proofs.Memory.{appends_some}
use Rattle.calc_base.proofs.mem_sink.MemSinkSink.put.Goals as goal

pub returns-then-listed-2-clause-err : goal.returns-then-listed-2-clause-err
returns-then-listed-2-clause-err c =
    let grew = rw c.unwrap.ensures at c.extend_from_slice.ensures.items in
    rw (← c.self.view_is) (appends_some _ _ _ _ _ _ _ _ grew)
