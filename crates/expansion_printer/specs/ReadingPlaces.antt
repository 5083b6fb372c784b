-- The indices of cells in a column reading, which has the letters of the columns from the rightmost to the leftmost, each from top to bottom.
use Rattle.std.specs.Prelude.{◌≡◌, ℕ, ◌+◌, ◌-◌, max, nat_le, nat_lt, Bool, ◌&&◌, cond, List}
use Rattle.std.specs.Prelude.{slice_index}
use Rattle.sym_model.specs.Partition.{IsCell}
use Rattle.sym_model.specs.Tableau.{SkewFilling}
use Rattle.sym_model.specs.TableauList.{letter_of_cell, reading_cells}
use Rattle.skew_shapes.specs.CellFillings.{place_in_row, row_of}

-- The number of the filling t in each cell is the index of this cell in column readings: if a word w is read as the column reading of a filling of
-- this shape, the letter in the cell is the letter of w at that index.
pub record HasReadingPlaces (t : SkewFilling) : Type 0 where
  pub letters : (row column : ℕ) → IsCell t.outer t.inner row column → (w : List ℕ)
      → slice_index w (slice_index (row_of t.rows row) (place_in_row t.inner row column))
      ≡ letter_of_cell row column (reading_cells t.outer t.inner) w

-- the number of cells of a row that come, in a column reading, before a given cell in the column `column`; the row has cells in columns left + 1 to
-- right, and the last argument, `is_above`, says whether the row is above the given cell
abbrev pub before_in_row : (left right column : ℕ) → Bool → ℕ
before_in_row left right column is_above =
    (right - max left column) + cond (is_above && (nat_lt left column && nat_le column right)) 1 0
