-- The printed forms of words, tableaux, lists of tableaux and growth grids.
use Rattle.std.specs.Prelude.{ℕ, List, [], ◌∷◌, ◌++◌, map, codes, decimal, flat_map}
use Rattle.sym_model.specs.TableauList.{filling_of}
use Rattle.sym_model.specs.Growth.{grid_lines}
use Rattle.sym_model.specs.NumberText.{label_text}

-- the pieces of text joined, with the separator between any two neighbours
abbrev pub separated : List ℕ → List (List ℕ) → List ℕ
separated separator [] = []
separated separator (piece ∷ []) = piece
separated separator (piece ∷ next ∷ pieces) =
    piece ++ (separator ++ separated separator (next ∷ pieces))

-- the text of a list of numbers: the numbers in decimal with one space between neighbours
abbrev pub spaced : List ℕ → List ℕ
spaced numbers = separated (codes " ") (map decimal numbers)

-- the text of a row of a tableau: its entries with one space between neighbours, or `.` if it has no cells
abbrev pub row_text : List ℕ → List ℕ
row_text [] = codes "."
row_text (a ∷ row) = spaced (a ∷ row)

-- the text of a tableau: its rows from top to bottom with ` / ` between them, or `.` if it has no rows
abbrev pub tableau_text : List (List ℕ) → List ℕ
tableau_text [] = codes "."
tableau_text (row ∷ rows) = separated (codes " / ") (map row_text (row ∷ rows))

-- the line of a tableau: its text and LF
abbrev pub tableau_line : List (List ℕ) → List ℕ
tableau_line rows = tableau_text rows ++ codes "\n"

-- the two lines of a pair of tableaux p and q: `P ` and the text of p, and `Q ` and the text of q
abbrev pub pair_text : List (List ℕ) → List (List ℕ) → List ℕ
pair_text p q = (codes "P " ++ tableau_line p) ++ (codes "Q " ++ tableau_line q)

-- the line of a word: its letters with one space between neighbours; an empty line for the empty word
abbrev pub word_line : List ℕ → List ℕ
word_line w = spaced w ++ codes "\n"

-- the lines of the tableaux of outer/inner with these column readings, or the line 0 if there is no reading
abbrev pub readings_text : List ℕ → List ℕ → List (List ℕ) → List ℕ
readings_text outer inner [] = codes "0\n"
readings_text outer inner (w ∷ readings) =
    flat_map (λ v. tableau_line (filling_of outer inner v)) (w ∷ readings)

-- a line of a growth grid: its shapes, each as a list in parentheses, with one space between neighbours
abbrev pub shapes_line : List (List ℕ) → List ℕ
shapes_line shapes = separated (codes " ") (map label_text shapes) ++ codes "\n"

-- the text of the growth grid of a permutation, one line after another
abbrev pub grid_text : List ℕ → List ℕ
grid_text w = flat_map shapes_line (grid_lines w)
