use Rattle.calc_base.proofs.Memory.{appends_some}
use Rattle.calc_base.proofs.fixed_sink.FixedSinkSink.put.Goals as goal

pub returns-then-fits-bytes-clause-err : goal.returns-then-fits-bytes-clause-err
returns-then-fits-bytes-clause-err c =
    rw (← c.self.view_is) (appends_some _ _ _ c.copy_what_fits-fits.result _ _ _ _
    c.copy_what_fits-fits.ensures.copied)
