-- The rows of a filling of a skew shape, padded on the left with zeros at the cells of the inner shape, so that every row begins in the first column;
-- and the columns of padded rows. A *pattern* is a list of lines of booleans that are true at the cells; its fillings have a word for each line.
use Rattle.std.specs.Prelude.{ℕ, ◌-◌, Bool, true, false, List, [], ◌∷◌, ◌++◌, map, replicate, drop}
use Rattle.std.specs.Prelude.{flat_map}
use Rattle.sym_model.specs.Partition.{part, after}

-- the columns with a row on top: the i-th entry of the row is added in front of column i, or is a new column if there are fewer than i columns
abbrev pub put_row : {A : Type 0} → List A → List (List A) → List (List A)
put_row [] columns = columns
put_row (x ∷ row) [] = (x ∷ []) ∷ put_row row []
put_row (x ∷ row) (c ∷ columns) = (x ∷ c) ∷ put_row row columns

-- the columns of a list of rows, if all rows begin in the same column and no row is longer than the row above it
abbrev pub transposed : {A : Type 0} → List (List A) → List (List A)
transposed [] = []
transposed (row ∷ rows) = put_row row (transposed rows)

-- the letters allowed at a place: 1, .., n if it is a cell (true), and only 0 if it is outside the shape (false)
abbrev pub letters_at : ℕ → Bool → List ℕ
letters_at n true = after 0 n
letters_at n false = 0 ∷ []

-- the words with a letter from 1 to n at each cell of a line (true), and 0 at each place outside the shape (false)
abbrev pub words_over : ℕ → List Bool → List (List ℕ)
words_over n [] = [] ∷ []
words_over n (p ∷ line) = flat_map (λ a. map (λ w. a ∷ w) (words_over n line)) (letters_at n p)

-- the fillings of a pattern: lists of words, one for each line of the pattern, from `words_over`
abbrev pub fillings_over : ℕ → List (List Bool) → List (List (List ℕ))
fillings_over n [] = [] ∷ []
fillings_over n (line ∷ pattern) =
    flat_map (λ w. map (λ rest. w ∷ rest) (fillings_over n pattern)) (words_over n line)

-- the line of a row of a skew shape: b times false, for places outside the shape, and then k times true, for cells
abbrev pub line_of : ℕ → ℕ → List Bool
line_of b k = replicate b false ++ replicate k true

-- the pattern of outer/inner: for each row of outer, false at the cells of inner and then true at the cells of outer/inner
abbrev pub pattern_of : List ℕ → List ℕ → List (List Bool)
pattern_of [] inner = []
pattern_of (a ∷ outer) inner =
    line_of (part inner 1) (a - part inner 1) ∷ pattern_of outer (drop 1 inner)

-- a filling of a skew shape with each row padded on its left with zeros at the cells of the inner shape
abbrev pub padded : List ℕ → List (List ℕ) → List (List ℕ)
padded inner [] = []
padded inner (row ∷ rows) = (replicate (part inner 1) 0 ++ row) ∷ padded (drop 1 inner) rows
