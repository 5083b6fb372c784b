use Rattle.std.proofs.Common.{◌∙◌, ap}
use Rattle.expansion_printer.specs.Gathering.{Waiting}
use Rattle.expansion_printer.proofs.GatheringLaws.{Gathers-kept, Gathers-straight, Gathers-from}
use Rattle.expansion_printer.proofs.text_buffer.TextBuffer.put_first.Goals as goal

pub returns-then-keep : goal.returns-then-keep
returns-then-keep g c =
    Gathers-kept (g.K.Sink.seen c.args.sink.now) (c.keep.ensures.kept c.if-keep.true)

pub returns : goal.returns
returns g c =
    let same = c.self.view_is ∙ c.keep.ensures.full c.if-keep.false in
    let none = ap (λ (w : Waiting). w.bytes) same ∙ c.requires in
    Gathers-from same (Gathers-straight none none c.put_if-self-inside.ensures.goes)
