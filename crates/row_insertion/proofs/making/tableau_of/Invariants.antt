use Rattle.row_insertion.specs.RowLists.{rows_in}
use Rattle.row_insertion.proofs.Overwriting.{IsWritingRows}
use Rattle.row_insertion.proofs.making.tableau_of.Given as goal

abbrev pub invariant-loop-at : goal.invariant-loop-at
invariant-loop-at l = IsWritingRows (rows_in l.rows) l.initial.filled.rows l.filled l.at
