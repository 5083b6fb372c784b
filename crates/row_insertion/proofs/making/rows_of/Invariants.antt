use Rattle.std.proofs.Common.{◌≡◌, take}
use Rattle.row_insertion.specs.RowLists.{rows_in}
use Rattle.row_insertion.proofs.making.rows_of.Given as goal

abbrev pub invariant-loop-at : goal.invariant-loop-at
invariant-loop-at l = rows_in l.list.items ≡ take l.at l.t.rows
