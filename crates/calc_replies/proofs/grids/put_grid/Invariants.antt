use Rattle.std.proofs.Common.{true}
use Rattle.calc_base.specs.Puts.{Puts}
use Rattle.calc_replies.proofs.GridLines.{first_lines}
use Rattle.calc_replies.proofs.grids.put_grid.Given as goal

-- the lines of the growth grid visited so far have been written to the sink
abbrev pub invariant-loop-at : goal.invariant-loop-at
invariant-loop-at g l =
    Puts true (g.K.Sink.seen l.fn.sink) true (g.K.Sink.seen l.sink) (first_lines l.grid l.at)
