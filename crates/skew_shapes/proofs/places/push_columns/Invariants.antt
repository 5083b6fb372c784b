-- Loop invariant: the numbers of the cells in the columns right of the current column have been appended.
use Rattle.std.proofs.Common.{◌≡◌, ◌≤◌, ℕ, ◌++◌, map}
use Rattle.sym_model.specs.Partition.{columns}
use Rattle.skew_shapes.specs.Rows.{number_in, cells_right_of}
use Rattle.skew_shapes.proofs.places.push_columns.Given as goal

abbrev pub invariant-loop-column : goal.invariant-loop-column
invariant-loop-column l = record {
  within : l.column ≤ columns l.outer;
  letters :
      l.letters.items
      ≡ l.fn.letters.items ++ map (λ (c : ℕ × ℕ). number_in l.starts l.numbers c.0 c.1) (cells_right_of l.outer l.inner l.column);
}

abbrev pub decreases-loop-column : goal.decreases-loop-column
decreases-loop-column l = l.column
