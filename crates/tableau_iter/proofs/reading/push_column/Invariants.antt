-- Loop invariant: for each row visited so far with a cell in the given column, the number in this cell has been appended.
use Rattle.std.proofs.Common.{◌≡◌, ℕ, ◌++◌, map}
use Rattle.skew_shapes.specs.Rows.{cells_above}
use Rattle.tableau_iter.specs.ReadRows.{letter_in_rows}
use Rattle.tableau_iter.proofs.reading.push_column.Given as goal

abbrev pub invariant-loop-row : goal.invariant-loop-row
invariant-loop-row l =
    l.letters.items
    ≡ l.fn.letters.items ++ map (λ (c : ℕ × ℕ). letter_in_rows l.inner (map (λ r. r.items) l.rows) c.0 c.1) (cells_above l.outer l.inner l.column l.row)
