-- Lists of the tableaux of a skew shape, given by their column readings, and the filling that has a given column
-- reading.
use Rattle.std.specs.Prelude.{ℕ, ◌-◌, ◌==◌, nat_le, nat_lt, ◌&&◌, cond, List, [], ◌∷◌, map, length}
use Rattle.std.specs.Prelude.{reverse, filter, flat_map, Bool}
use Rattle.sym_model.specs.Polynomial.{same}
use Rattle.sym_model.specs.Partition.{part, rows, columns, after, cells}
use Rattle.sym_model.specs.Schur.{words, tableaux, content, row_lengths}
use Rattle.sym_model.specs.GoodTableau.{column_reading, is_among, lattice_readings}

-- the column readings of the semistandard tableaux of outer/inner with entries from 1 to n, in
-- increasing lexicographic order: the words with letters from 1 to n that are the column reading of
-- such a tableau
abbrev pub tableau_readings : ℕ → List ℕ → List ℕ → List (List ℕ)
tableau_readings n outer inner =
    let readings = map (column_reading outer inner) (tableaux n outer inner) in
    filter (λ w. is_among w readings) (words n (length (cells outer inner)))

-- the column readings of the semistandard tableaux of outer/inner in which each letter i from 1 to the length of
-- `counts` occurs counts_i times, and no other letter occurs
abbrev pub readings_with_content : List ℕ → List ℕ → List ℕ → List (List ℕ)
readings_with_content counts outer inner =
    filter (λ w. same (content (length counts) w) counts)
    (tableau_readings (length counts) outer inner)

-- the lists that come after w in a list of lists; no lists if w is not in it
abbrev pub later_than : List ℕ → List (List ℕ) → List (List ℕ)
later_than w [] = []
later_than w (v ∷ vs) = cond (same w v) vs (later_than w vs)

-- the cells of column j of outer/inner, as pairs (row, column), from top to bottom
abbrev pub column_cells : List ℕ → List ℕ → ℕ → List (ℕ × ℕ)
column_cells outer inner j =
    map (λ i. (i, j)) (filter (λ i. nat_lt (part inner i) j && nat_le j (part outer i))
    (after 0 (rows outer)))

-- the cells of outer/inner in the order of the column reading: by columns from the rightmost to the leftmost, each
-- from top to bottom
abbrev pub reading_cells : List ℕ → List ℕ → List (ℕ × ℕ)
reading_cells outer inner = flat_map (column_cells outer inner) (reverse (after 0 (columns outer)))

-- the letter that the cell (row, column) gets if the letters of the word w are written into the listed cells one by
-- one; 0 if it gets no letter
abbrev pub letter_of_cell : ℕ → ℕ → List (ℕ × ℕ) → List ℕ → ℕ
letter_of_cell row column [] w = 0
letter_of_cell row column (c ∷ cells) [] = 0
letter_of_cell row column (c ∷ cells) (a ∷ w) =
    cond ((c.0 == row) && (c.1 == column)) a (letter_of_cell row column cells w)

-- the filling of outer/inner whose column reading is the word w
abbrev pub filling_of : List ℕ → List ℕ → List ℕ → List (List ℕ)
filling_of outer inner w =
    map
    (λ row. map (λ column. letter_of_cell row column (reading_cells outer inner) w)
    (after (part inner row) (part outer row - part inner row)))
    (after 0 (rows outer))

-- whether `rows` are the rows of a lattice tableau of the shape outer/inner
abbrev pub is_lattice_tableau : List ℕ → List ℕ → List (List ℕ) → Bool
is_lattice_tableau outer inner rows =
    same (map length rows) (row_lengths outer inner)
    && is_among (column_reading outer inner rows) (lattice_readings outer inner)
