-- Loop invariant: for each row visited so far that has a cell in the given column, one number has been appended: the number of the row, or that of
-- the column if column numbers are wanted.
use Rattle.std.proofs.Common.{◌≡◌, ℕ, ◌++◌, cond, map}
use Rattle.skew_shapes.specs.Rows.{cells_above}
use Rattle.tableau_iter.proofs.cells.push_column.Given as goal

abbrev pub invariant-loop-row : goal.invariant-loop-row
invariant-loop-row l =
    l.numbers.items
    ≡ l.fn.numbers.items ++ map (λ (c : ℕ × ℕ). cond l.of_row c.0 c.1) (cells_above l.outer l.inner l.column l.row)
