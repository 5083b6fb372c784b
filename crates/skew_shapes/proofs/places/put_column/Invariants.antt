-- Loop invariant: the letters of the word are in the cells of the columns right of column `column`, and in the cells of this column in the rows
-- visited so far.
use Rattle.std.proofs.Common.{◌≡◌, ◌++◌, length, drop}
use Rattle.skew_shapes.specs.Rows.{HoldsLetters, cells_above, cells_right_of}
use Rattle.skew_shapes.proofs.places.put_column.Given as goal

abbrev pub invariant-loop-row : goal.invariant-loop-row
invariant-loop-row l = record {
  rest :
      l.rest ≡ drop (length (cells_right_of l.outer l.inner l.column ++ cells_above l.outer l.inner l.column l.row)) l.word;
  letters :
      HoldsLetters l.starts l.numbers l.outer l.inner
      (cells_right_of l.outer l.inner l.column ++ cells_above l.outer l.inner l.column l.row) l.word;
}
