use Rattle.std.proofs.Common.{◌≡◌, false}
use Rattle.batch_lines.proofs.NextLines.{ReadsSo}
use Rattle.batch_lines.proofs.reader.read_next.Given as goal

abbrev pub invariant-loop-heard : goal.invariant-loop-heard
invariant-loop-heard g l =
    (l.has_ended ≡ false)
    × ReadsSo (g.S.Source.seen l.fn.source) (g.S.Source.seen l.source) l.fn.pieces l.pieces l.line.items l.is_long

abbrev pub decreases-loop-heard : goal.decreases-loop-heard
decreases-loop-heard g l = (g.S.Source.seen l.source).allowance
