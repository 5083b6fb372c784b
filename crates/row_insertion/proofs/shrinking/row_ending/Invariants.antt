use Rattle.std.proofs.Common.{◌≢◌, ◌<◌, ℕ}
use Rattle.insertion_laws.specs.Removal.{last_of}
use Rattle.row_insertion.specs.RowLists.{rows_in, row_at}
use Rattle.row_insertion.proofs.shrinking.row_ending.Given as goal

abbrev pub invariant-loop-at : goal.invariant-loop-at
invariant-loop-at l = (j : ℕ) → j < l.at → last_of (row_at (rows_in l.rows) j) ≢ l.number
