use Rattle.row_insertion.specs.RowLists.{rows_in}
use Rattle.row_insertion.proofs.WordRuns.{IsRun}
use Rattle.row_insertion.proofs.insertion.insert_word.Given as goal

abbrev pub invariant-loop-at : goal.invariant-loop-at
invariant-loop-at l = IsRun l.letters l.at (rows_in l.insertion.items) (rows_in l.recording.items)
