-- Loop invariant: the numbers in the cells of the columns right of the current one have been appended.
use Rattle.std.proofs.Common.{◌≡◌, ◌≤◌, ℕ, ◌++◌, map}
use Rattle.sym_model.specs.Partition.{columns}
use Rattle.skew_shapes.specs.Rows.{cells_right_of}
use Rattle.tableau_iter.specs.ReadRows.{letter_in_rows}
use Rattle.tableau_iter.proofs.reading.push_columns.Given as goal

abbrev pub invariant-loop-column : goal.invariant-loop-column
invariant-loop-column l = record {
  within : l.column ≤ columns l.outer;
  letters :
      l.letters.items
      ≡ l.fn.letters.items ++ map (λ (c : ℕ × ℕ). letter_in_rows l.inner (map (λ r. r.items) l.rows) c.0 c.1) (cells_right_of l.outer l.inner l.column);
}

abbrev pub decreases-loop-column : goal.decreases-loop-column
decreases-loop-column l = l.column
