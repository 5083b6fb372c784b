-- Growth of shapes by local rules (Fomin; Stanley, Enumerative Combinatorics 2, 7.13). The growth grid of a
-- permutation w of n letters has a shape at (i, j), for i and j from 0 to n. The square of the grid with the corners
-- (i, j) and (i + 1, j + 1) is marked if w(i + 1) = j + 1.
use Rattle.std.specs.Prelude.{ℕ, zero, suc, ◌+◌, ◌==◌, max, nat_le, nat_lt, Bool, cond, List, []}
use Rattle.std.specs.Prelude.{◌∷◌, ◌++◌, map, length, filter}
use Rattle.sym_model.specs.Polynomial.{same}
use Rattle.sym_model.specs.Partition.{after}
use Rattle.sym_model.specs.Permutation.{letter}

-- the union of two shapes: in each row the greater of the two numbers of cells
abbrev pub union : List ℕ → List ℕ → List ℕ
union [] shape = shape
union (a ∷ shape) [] = a ∷ shape
union (a ∷ shape) (b ∷ other) = max a b ∷ union shape other

-- the number, counted from 0, of the first row that is longer in the first shape than in the second shape; the second
-- shape lies inside the first
abbrev pub grown : List ℕ → List ℕ → ℕ
grown [] small = 0
grown (a ∷ large) [] = 0
grown (a ∷ large) (b ∷ small) = cond (nat_lt b a) 0 (suc (grown large small))

-- the shape with one more cell in row i, counted from 0; if there is no row i, with a new last row of one cell
abbrev pub with_cell : ℕ → List ℕ → List ℕ
with_cell i [] = 1 ∷ []
with_cell zero (a ∷ shape) = (a + 1) ∷ shape
with_cell (suc i) (a ∷ shape) = a ∷ with_cell i shape

-- Fomin's local rules: the shape ν at one corner of a square, given the shape λ at the opposite corner (`opposite`)
-- and the shapes at the two other corners (`left`, `right`). If `left` and `right` differ, ν is their union. If both
-- are λ, ν is λ, with one more cell in the first row if the square is marked. If both are λ with one more cell, in
-- row r, then ν has this cell and one more cell in row r + 1.
abbrev pub at_corner : Bool → List ℕ → List ℕ → List ℕ → List ℕ
at_corner marked opposite left right =
    cond (same left right)
    (cond (same left opposite) (cond marked (with_cell 0 opposite) opposite)
    (with_cell (suc (grown left opposite)) left))
    (union left right)

-- the shape at (i, j) of the growth grid of w: empty if i or j is 0; otherwise given by the local rules from the
-- shapes at (i - 1, j - 1), (i - 1, j) and (i, j - 1)
abbrev pub growth_shape : List ℕ → ℕ → ℕ → List ℕ
growth_shape w zero j = []
growth_shape w (suc i) zero = []
growth_shape w (suc i) (suc j) =
    at_corner (letter w (suc i) == suc j) (growth_shape w i j) (growth_shape w i (suc j))
    (growth_shape w (suc i) j)

-- line i of the growth grid of a permutation w of n letters: the shapes at (i, 0), .., (i, n)
abbrev pub grid_line : List ℕ → ℕ → List (List ℕ)
grid_line w i = map (growth_shape w i) (0 ∷ after 0 (length w))

-- the growth grid of a permutation w of n letters: its lines i = 0, .., n
abbrev pub grid_lines : List ℕ → List (List (List ℕ))
grid_lines w = map (grid_line w) (0 ∷ after 0 (length w))

-- the letters of a word that are at most j
abbrev pub at_most : ℕ → List ℕ → List ℕ
at_most j w = filter (λ a. nat_le a j) w

-- the rows of a tableau with k appended to row i, counted from 0; if there is no row i, with a new last row that has
-- only k
abbrev pub with_end : ℕ → ℕ → List (List ℕ) → List (List ℕ)
with_end i k [] = (k ∷ []) ∷ []
with_end zero k (row ∷ rows) = (row ++ k ∷ []) ∷ rows
with_end (suc i) k (row ∷ rows) = row ∷ with_end i k rows

-- the tableau of a chain of shapes from shape 0 to shape n, each with one cell more than the shape before it: for k
-- from 1 to n, the number k is in the cell that shape k has and shape k - 1 does not have
abbrev pub tableau_of_chain : (ℕ → List ℕ) → ℕ → List (List ℕ)
tableau_of_chain shape zero = []
tableau_of_chain shape (suc k) =
    with_end (grown (shape (suc k)) (shape k)) (suc k) (tableau_of_chain shape k)
