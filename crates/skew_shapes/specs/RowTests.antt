-- The conditions on a semistandard tableau, tested row by row.
use Rattle.std.specs.Prelude.{ℕ, ◌+◌, ◌-◌, nat_lt, Bool, true, ◌&&◌, cond, List, length, drop}
use Rattle.sym_model.specs.Partition.{part}
use Rattle.sym_model.specs.Schur.{row_rises, columns_rise}
use Rattle.sym_model.specs.Tableau.{are_letters}
use Rattle.skew_shapes.specs.CellFillings.{row_of}

-- whether each letter of row `row` + 1 is greater than the letter directly above it in row `row`
abbrev pub stands_below : List ℕ → List (List ℕ) → ℕ → Bool
stands_below inner rows row =
    columns_rise (row_of rows row)
    (drop (part inner row - part inner (row + 1)) (row_of rows (row + 1)))

-- whether the letters of row `row`, counted from 1, are positive and weakly increasing, and smaller than the letters directly below them
abbrev pub row_passes : List ℕ → List (List ℕ) → ℕ → Bool
row_passes inner rows row =
    are_letters (row_of rows row)
    && (row_rises (row_of rows row)
    && cond (nat_lt row (length rows)) (stands_below inner rows row) true)
