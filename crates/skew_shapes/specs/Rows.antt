-- Fillings given by a function f, with the number f row column in the cell (row, column); and fillings given by one list of all their numbers, in
-- which each row of the outer partition begins at an index of its own.
use Rattle.std.specs.Prelude.{◌≡◌, ℕ, ◌+◌, ◌-◌, ◌<◌, ◌≤◌, nat_le, nat_lt, Bool, ◌&&◌, List, map}
use Rattle.std.specs.Prelude.{length, reverse, slice_index, filter, flat_map}
use Rattle.sym_model.specs.Partition.{IsCell, part, rows, columns, after}
use Rattle.sym_model.specs.TableauList.{column_cells, letter_of_cell}
use Rattle.sym_model.specs.Tableau.{SkewFilling}
use Rattle.skew_shapes.specs.Shapes.{IsSkew}

-- row `row` of the filling of outer/inner that has the number f row column in each cell (row, column)
abbrev pub row_by : (ℕ → ℕ → ℕ) → List ℕ → List ℕ → ℕ → List ℕ
row_by f outer inner row = map (f row) (after (part inner row) (part outer row - part inner row))

-- the rows of the filling of outer/inner that has the number f row column in each cell (row, column)
abbrev pub rows_by : (ℕ → ℕ → ℕ) → List ℕ → List ℕ → List (List ℕ)
rows_by f outer inner = map (row_by f outer inner) (after 0 (rows outer))

-- the index of the cell (row, column) in a list of numbers in which, for each i, row i of the outer partition begins at the index starts_i
abbrev pub place_of : List ℕ → ℕ → ℕ → ℕ
place_of starts row column = slice_index starts (row - 1) + (column - 1)

-- the number in the cell (row, column), if row i of the outer partition begins at the index starts_i of the list `numbers`
abbrev pub number_in : List ℕ → List ℕ → ℕ → ℕ → ℕ
number_in starts numbers row column = slice_index numbers (place_of starts row column)

-- the filling of the given shape whose numbers are taken from the list `numbers`: for each i, row i of the outer partition begins there at the index
-- starts_i
abbrev pub filling_in : List ℕ × List ℕ → List ℕ → List ℕ → SkewFilling
filling_in shape starts numbers =
    record {
      outer = shape.0;
      inner = shape.1;
      rows = rows_by (number_in starts numbers) shape.0 shape.1;
    }

-- the rows of the partition outer have places in a list of length `places`: row i occupies the outer_i places from the index starts_i on. These
-- places do not overlap, follow one another in the order of the rows, and are within the list
pub record HasPlaces (starts outer : List ℕ) (places : ℕ) : Type 0 where
  pub rows : length outer ≤ length starts
  pub apart : (i k : ℕ) → i < k → k < length outer
      → slice_index starts i + slice_index outer i ≤ slice_index starts k
  pub within : (i : ℕ) → i < length outer → slice_index starts i + slice_index outer i ≤ places

-- `shape` is a skew shape within the limits (at most 512 rows and 4096 cells), and the list `numbers` is long enough for all rows of its outer
-- partition, if row i begins at the index starts_i for each i (`HasPlaces`)
pub record IsKept (shape : List ℕ × List ℕ) (starts numbers : List ℕ) : Type 0 where
  pub skew : IsSkew shape.0 shape.1
  pub places : HasPlaces starts shape.0 (length numbers)

-- whether row `row` has a cell of outer/inner in column j
abbrev pub reaches : List ℕ → List ℕ → ℕ → ℕ → Bool
reaches outer inner j row = nat_lt (part inner row) j && nat_le j (part outer row)

-- the cells of outer/inner in the columns right of column j, in the order of the column reading
abbrev pub cells_right_of : List ℕ → List ℕ → ℕ → List (ℕ × ℕ)
cells_right_of outer inner j =
    flat_map (column_cells outer inner) (reverse (after j (columns outer - j)))

-- the cells of outer/inner in column j and the first k rows, from top to bottom
abbrev pub cells_above : List ℕ → List ℕ → ℕ → ℕ → List (ℕ × ℕ)
cells_above outer inner j k = map (λ row. (row, j)) (filter (reaches outer inner j) (after 0 k))

-- in the list `numbers`, each cell of outer/inner has the letter that it gets if the letters of w are written into the cells of the list `cells` one
-- after another; it has 0 if it gets no letter
abbrev pub HoldsLetters : List ℕ → List ℕ → List ℕ → List ℕ → List (ℕ × ℕ) → List ℕ → Type 0
HoldsLetters starts numbers outer inner cells w =
    (row column : ℕ) → IsCell outer inner row column
    → number_in starts numbers row column ≡ letter_of_cell row column cells w
