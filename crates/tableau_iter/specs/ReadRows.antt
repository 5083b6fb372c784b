-- The letter of a cell in a filling given by its rows.
use Rattle.std.specs.Prelude.{ℕ, ◌+◌, ◌-◌, List, [], slice_index, slice_index_or}
use Rattle.sym_model.specs.Partition.{part}

-- the letter in the cell (row, column) of the filling with these rows and this inner partition
abbrev pub letter_in_rows : List ℕ → List (List ℕ) → ℕ → ℕ → ℕ
letter_in_rows inner rows row column =
    slice_index (slice_index_or rows (row - 1) []) (column - (part inner row + 1))
