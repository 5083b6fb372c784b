-- Fillings of skew shapes: the entry of a cell, and fillings with one entry changed or with one cell added or removed. A skew shape is within the
-- limits if its partitions have at most 512 rows and 4096 cells.
use Rattle.std.specs.Prelude.{◌≡◌, ℕ, ◌+◌, ◌-◌, nat_le, nat_lt, Bool, ◌&&◌, cond, List, [], ◌∷◌}
use Rattle.std.specs.Prelude.{map, length, take, slice_index, slice_index_or, slice_set, Option}
use Rattle.std.specs.Prelude.{Some, None}
use Rattle.sym_model.specs.Partition.{part, without_last_zeros}
use Rattle.sym_model.specs.Schur.{row_lengths, semistandard, letters_of}
use Rattle.sym_model.specs.Slide.{lowered_at}
use Rattle.sym_model.specs.Tableau.{SkewFilling, IsTableau, are_letters}
use Rattle.sym_model.specs.TableauList.{filling_of}
use Rattle.skew_shapes.specs.Shapes.{IsSkew}

-- t is a filling: its shape is a skew shape within the limits, and its rows have the lengths of the rows of the shape
pub record IsFilling (t : SkewFilling) : Type 0 where
  pub shape : IsSkew t.outer t.inner
  pub cells : map length t.rows ≡ row_lengths t.outer t.inner

-- t is a semistandard tableau with entries at least 1, and its skew shape is within the limits
pub record IsTableauWithin (t : SkewFilling) : Type 0 where
  pub shape : IsSkew t.outer t.inner
  pub tableau : IsTableau t.outer t.inner t.rows

-- whether a filling is a semistandard tableau with entries at least 1
abbrev pub is_tableau : SkewFilling → Bool
is_tableau t = are_letters (letters_of t.rows) && semistandard t.inner t.rows

-- the filling of outer/inner with the column reading w: letters in excess of the cells are ignored, and cells without a letter have 0
abbrev pub filled_with : List ℕ → List ℕ → List ℕ → SkewFilling
filled_with outer inner w = record { outer = outer; inner = inner; rows = filling_of outer inner w }

-- row `row` of the list of rows, counted from 1; empty if there is no such row
abbrev pub row_of : List (List ℕ) → ℕ → List ℕ
row_of rows row = slice_index_or rows (row - 1) []

-- the index, counted from 0, of the cell in column `column` of row `row`, among the cells of that row
abbrev pub place_in_row : List ℕ → ℕ → ℕ → ℕ
place_in_row inner row column = column - (part inner row + 1)

-- whether (row, column) is a cell of outer/inner
abbrev pub is_cell : List ℕ → List ℕ → ℕ → ℕ → Bool
is_cell outer inner row column =
    nat_le 1 row && (nat_lt (part inner row) column && nat_le column (part outer row))

-- the number of the filling t in the cell (row, column); None if that is not a cell of its shape
abbrev pub entry_at : SkewFilling → ℕ → ℕ → Option ℕ
entry_at t row column =
    cond (is_cell t.outer t.inner row column)
    (Some (slice_index (row_of t.rows row) (place_in_row t.inner row column))) None

-- the rows with the number in the cell (row, column) replaced by a
abbrev pub rows_with_entry : List ℕ → List (List ℕ) → ℕ → ℕ → ℕ → List (List ℕ)
rows_with_entry inner rows row column a =
    slice_set rows (row - 1) (slice_set (row_of rows row) (place_in_row inner row column) a)

-- the filling t with the number in the cell (row, column) replaced by a
abbrev pub with_entry : SkewFilling → ℕ → ℕ → ℕ → SkewFilling
with_entry t row column a =
    record { outer = t.outer; inner = t.inner; rows = rows_with_entry t.inner t.rows row column a }

-- the filling t with the last cell of row `row` of its inner partition moved into the shape, with the number 0
abbrev pub with_inner_cell : SkewFilling → ℕ → SkewFilling
with_inner_cell t row =
    record {
      outer = t.outer;
      inner = without_last_zeros (lowered_at row t.inner);
      rows = slice_set t.rows (row - 1) (0 ∷ row_of t.rows row);
    }

-- the filling t without the last cell of row `row`; if the outer partition then has no cell in its last row, that row is dropped
abbrev pub without_outer_cell : SkewFilling → ℕ → SkewFilling
without_outer_cell t row =
    let outer = without_last_zeros (lowered_at row t.outer) in
    let kept = take (length (row_of t.rows row) - 1) (row_of t.rows row) in
    record {
      outer = outer;
      inner = t.inner;
      rows = take (length outer) (slice_set t.rows (row - 1) kept);
    }
