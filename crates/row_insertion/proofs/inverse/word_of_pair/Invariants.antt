use Rattle.row_insertion.specs.RowLists.{rows_in}
use Rattle.row_insertion.proofs.WordRuns.{IsUnwinding}
use Rattle.row_insertion.proofs.inverse.word_of_pair.Given as goal

abbrev pub invariant-loop-step : goal.invariant-loop-step
invariant-loop-step l =
    IsUnwinding l.p.rows l.q.rows l.initial.step l.step (rows_in l.insertion.items) (rows_in l.recording.items) l.letters.items

abbrev pub decreases-loop-step : goal.decreases-loop-step
decreases-loop-step l = l.step
