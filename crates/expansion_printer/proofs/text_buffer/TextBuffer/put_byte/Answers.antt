use Rattle.std.proofs.Common.{ℕ, List, ap}
use Rattle.expansion_printer.specs.Gathering.{Waiting}
use Rattle.expansion_printer.proofs.GatheringLaws.{Gathers-kept, Gathers-from}
use Rattle.expansion_printer.proofs.text_buffer.TextBuffer.put_byte.Goals as goal

pub returns : goal.returns
returns g c =
    let with : List ℕ → Waiting = λ bytes. record { bytes = bytes; well = c.self.inside.well } in
    Gathers-from c.self.view_is
    (Gathers-kept (g.K.Sink.seen c.args.sink.now) (ap with c.push.ensures.items))
