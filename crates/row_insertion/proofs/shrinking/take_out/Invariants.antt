use Rattle.row_insertion.specs.RowLists.{rows_in}
use Rattle.row_insertion.proofs.ShrinkingRows.{IsRising}
use Rattle.row_insertion.proofs.shrinking.take_out.Given as goal

abbrev pub invariant-loop-above : goal.invariant-loop-above
invariant-loop-above l = IsRising (rows_in l.fn.rows.items) l.at l.above (rows_in l.rows.items) l.letter

abbrev pub decreases-loop-above : goal.decreases-loop-above
decreases-loop-above l = l.above
