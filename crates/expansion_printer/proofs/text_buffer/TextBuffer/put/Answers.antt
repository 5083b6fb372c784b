use Rattle.expansion_printer.proofs.GatheringLaws.{Gathers-then, Gathers-kept, Gathers-from}
use Rattle.expansion_printer.proofs.text_buffer.TextBuffer.put.Goals as goal

pub returns-then-keep : goal.returns-then-keep
returns-then-keep g c =
    Gathers-kept (g.K.Sink.seen c.args.sink.now) (c.keep.ensures.kept c.if-keep.true)

pub returns : goal.returns
returns g c = Gathers-from (c.keep.ensures.full c.if-keep.false)
    (Gathers-then c.flush.ensures.goes c.put_first.ensures)
