use Rattle.std.proofs.Common.{◌+◌, length}
use Rattle.calc_app.proofs.Batches.{Runs}
use Rattle.calc_app.proofs.batch.batch.Given as goal

abbrev pub invariant-loop-reader : goal.invariant-loop-reader
invariant-loop-reader g l =
    Runs (g.K.Sink.seen l.fn.sink) (g.K.Sink.seen l.sink) (g.S.Source.seen l.fn.source) (g.S.Source.seen l.source) l.reader.pending l.reader.has_ended
    l.progress

abbrev pub decreases-loop-reader : goal.decreases-loop-reader
decreases-loop-reader g l = (g.S.Source.seen l.source).allowance + length l.reader.pending
