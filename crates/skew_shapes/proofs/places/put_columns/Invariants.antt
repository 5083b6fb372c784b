-- Loop invariant: the letters of the word are in the cells of the columns right of the current one, and `rest` has the letters not yet written.
use Rattle.std.proofs.Common.{◌≡◌, ◌≤◌, length, drop}
use Rattle.sym_model.specs.Partition.{columns}
use Rattle.skew_shapes.specs.Rows.{HoldsLetters, cells_right_of}
use Rattle.skew_shapes.proofs.places.put_columns.Given as goal

abbrev pub invariant-loop-column : goal.invariant-loop-column
invariant-loop-column l = record {
  within : l.column ≤ columns l.outer;
  rest : l.rest ≡ drop (length (cells_right_of l.outer l.inner l.column)) l.word;
  letters : HoldsLetters l.starts l.numbers l.outer l.inner (cells_right_of l.outer l.inner l.column) l.word;
}

abbrev pub decreases-loop-column : goal.decreases-loop-column
decreases-loop-column l = l.column
