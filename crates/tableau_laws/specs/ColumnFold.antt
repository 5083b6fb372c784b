-- Tableaux built column by column from the rightmost one on. Whether a column may be added depends only on the column to its right and on the *sum
-- reached*: this is a given partition, `start`, plus the content of the columns chosen so far. A column is written as a word with zeros at the places
-- outside the shape.
use Rattle.std.specs.Prelude.{ℕ, nat_le, nat_lt, Bool, ◌&&◌, cond, ℤ, pos, List, [], ◌∷◌, ◌++◌}
use Rattle.std.specs.Prelude.{filter}
use Rattle.sym_model.specs.Sum.{total}
use Rattle.sym_model.specs.Polynomial.{same, join}
use Rattle.sym_model.specs.Partition.{without_last_zeros}
use Rattle.sym_model.specs.Schur.{content, letters_of}
use Rattle.sym_model.specs.GoodTableau.{is_falling}
use Rattle.tableau_laws.specs.PaddedRows.{transposed, words_over, pattern_of}
use Rattle.tableau_laws.specs.Grid.{is_chain, pass_by_place, may_stand_above}

-- `filled w`: the word w without its zeros
abbrev pub filled : List ℕ → List ℕ
filled w = filter (λ a. nat_lt 0 a) w

-- the column reading of a filling that is given by its columns, listed from the leftmost one on, with zeros at the places outside the shape
abbrev pub reading_of : List (List ℕ) → List ℕ
reading_of [] = []
reading_of (c ∷ columns) = reading_of columns ++ filled c

-- start plus the content of the columns; the content counts the letters from 1 to n
abbrev pub sum_reached : ℕ → List ℕ → List (List ℕ) → List ℕ
sum_reached n start columns = join start (content n (letters_of columns))

-- whether start is weakly decreasing, and whether, for each column, start plus the content of this column and of all columns to its right is weakly
-- decreasing
abbrev pub is_good_by_columns : ℕ → List ℕ → List (List ℕ) → Bool
is_good_by_columns n start [] = is_falling (sum_reached n start [])
is_good_by_columns n start (c ∷ columns) =
    is_falling (sum_reached n start (c ∷ columns)) && is_good_by_columns n start columns

-- whether the column c can be added left of the column `right` if ν is the sum reached: the letters of c below its zeros are strictly increasing, no
-- letter is greater than the one to its right, and ν plus the content of c is weakly decreasing
abbrev pub may_be_next : ℕ → List ℕ → List ℕ → List ℕ → Bool
may_be_next n ν right c =
    is_chain may_stand_above c
    && (pass_by_place nat_le c right && is_falling (join ν (content n c)))

-- `next_columns n line f ν right`: the sum of f(ν + content(c), c) over the columns c that can be added left of `right` if ν is the sum reached. Each
-- c has a letter from 1 to n at each place that is true in `line`, and 0 at the other places.
abbrev pub next_columns : ℕ → List Bool → (List ℕ → List ℕ → ℤ) → List ℕ → List ℕ → ℤ
next_columns n line f ν right =
    total (λ c. cond (may_be_next n ν right c) (f (join ν (content n c)) c) (pos 0))
    (words_over n line)

-- `over_columns n lines f ν right`: the sum of f(ν', c) over all ways to choose one column for each line, the rightmost first, beginning left of
-- `right` with the sum reached ν; c is the column chosen last and ν' the sum then reached. The lines are listed from the leftmost one on.
abbrev pub over_columns : ℕ → List (List Bool) → (List ℕ → List ℕ → ℤ) → List ℕ → List ℕ → ℤ
over_columns n [] f ν right = f ν right
over_columns n (line ∷ lines) f ν right = over_columns n lines (next_columns n line f) ν right

-- the lines of the columns of outer/inner, from the leftmost column on. The line of a column has an entry for each row of outer that reaches the
-- column: true for a cell, and false for a place outside the shape.
abbrev pub column_lines : List ℕ → List ℕ → List (List Bool)
column_lines outer inner = transposed (pattern_of outer inner)

-- 1 if the sum reached ν, without the zeros at its end, is the partition `parts`; otherwise 0
abbrev pub is_sum : List ℕ → List ℕ → List ℕ → ℤ
is_sum parts ν right = cond (same (without_last_zeros ν) parts) (pos 1) (pos 0)
