use Rattle.row_insertion.proofs.Overwriting.{IsWriting}
use Rattle.row_insertion.proofs.making.put_row.Given as goal

abbrev pub invariant-loop-at : goal.invariant-loop-at
invariant-loop-at l = IsWriting l.fn.filled l.filled l.row l.numbers l.at
