-- Loop invariant: the row numbers, or the column numbers, of the cells in the columns right of the current one have been appended.
use Rattle.std.proofs.Common.{◌≡◌, ◌≤◌, ℕ, ◌++◌, cond, map}
use Rattle.sym_model.specs.Partition.{columns}
use Rattle.skew_shapes.specs.Rows.{cells_right_of}
use Rattle.tableau_iter.proofs.cells.push_columns.Given as goal

abbrev pub invariant-loop-column : goal.invariant-loop-column
invariant-loop-column l = record {
  within : l.column ≤ columns l.outer;
  numbers :
      l.numbers.items
      ≡ l.fn.numbers.items ++ map (λ (c : ℕ × ℕ). cond l.of_row c.0 c.1) (cells_right_of l.outer l.inner l.column);
}

abbrev pub decreases-loop-column : goal.decreases-loop-column
decreases-loop-column l = l.column
