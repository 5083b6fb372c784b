use Rattle.std.proofs.Common.{◌≡◌, length}
use Rattle.row_insertion.specs.RowLists.{rows_in}
use Rattle.row_insertion.proofs.GrowingRows.{IsInserting}
use Rattle.row_insertion.proofs.growing.insert.Given as goal

abbrev pub invariant-loop-at : goal.invariant-loop-at
invariant-loop-at l =
    (length l.rows.items ≡ l.count) × IsInserting (rows_in l.fn.rows.items) l.fn.letter l.at (rows_in l.rows.items) l.letter
