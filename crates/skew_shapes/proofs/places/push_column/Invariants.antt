-- Loop invariant: the numbers of the cells of column `column` in the rows visited so far have been appended.
use Rattle.std.proofs.Common.{◌≡◌, ℕ, ◌++◌, map}
use Rattle.skew_shapes.specs.Rows.{number_in, cells_above}
use Rattle.skew_shapes.proofs.places.push_column.Given as goal

abbrev pub invariant-loop-row : goal.invariant-loop-row
invariant-loop-row l =
    l.letters.items
    ≡ l.fn.letters.items ++ map (λ (c : ℕ × ℕ). number_in l.starts l.numbers c.0 c.1) (cells_above l.outer l.inner l.column l.row)
