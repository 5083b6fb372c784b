use Rattle.std.proofs.Common.{ap, sym}
use Rattle.std.specs.Prelude.{is_ok}
use Rattle.expansion_printer.proofs.CollectedLines.{finished_none, finished_some}
use Rattle.expansion_printer.proofs.line_text.LineText.finish.Goals.{then-is_empty, else-is_empty}
use Rattle.expansion_printer.proofs.line_text.LineText.finish.Goals as goal

pub returns-in-Ok : goal.returns-in-Ok
returns-in-Ok c =
    elim c.if-is_empty.branch [
      | then-is_empty w ↦ finished_none c.args.self _ _ _ _ _ _ _ _ (sym c.self.view_is) c.self.invariant
          (c.is_empty-is_empty.ensures.0 w.if-is_empty.true) w.put.ensures w.text-is w.sink-is
          c.finish.ensures (ap is_ok c.in-Ok.is)
      | else-is_empty w ↦ finished_some c.args.self _ _ _ _ _ _ (sym c.self.view_is)
          (λ e. let t = c.is_empty-is_empty.ensures.1 e in let f = w.if-is_empty.false in absurd (cc))
          w.text-is w.sink-is c.finish.ensures (ap is_ok c.in-Ok.is)
    ]
