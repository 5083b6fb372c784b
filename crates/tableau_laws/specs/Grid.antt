-- Grids of letters in which neighbours in a row satisfy one relation and neighbours in a column another one. Semistandard tableaux are the grids with
-- ≤ along the rows and < down the columns.
use Rattle.std.specs.Prelude.{ℕ, ◌+◌, ◌-◌, nat_le, nat_lt, Bool, true, ◌&&◌, List, [], ◌∷◌}

-- whether test a b holds of the letter a and the first letter b of a word; true if the word is empty
abbrev pub may_precede : (ℕ → ℕ → Bool) → ℕ → List ℕ → Bool
may_precede test a [] = true
may_precede test a (b ∷ w) = test a b

-- whether the test holds of any two neighbouring letters of a word
abbrev pub is_chain : (ℕ → ℕ → Bool) → List ℕ → Bool
is_chain test [] = true
is_chain test (a ∷ w) = may_precede test a w && is_chain test w

-- whether the test holds of the letters of two words at each place that both words have
abbrev pub pass_by_place : (ℕ → ℕ → Bool) → List ℕ → List ℕ → Bool
pass_by_place test [] w = true
pass_by_place test (a ∷ v) [] = true
pass_by_place test (a ∷ v) (b ∷ w) = test a b && pass_by_place test v w

-- the first line of a list of lines; the empty line if the list is empty
abbrev pub first_line : List (List ℕ) → List ℕ
first_line [] = []
first_line (line ∷ lines) = line

-- whether the test `along` holds of any two neighbours in a line,
-- and the test `between` of any two letters at the same place of neighbouring lines
abbrev pub is_grid : (ℕ → ℕ → Bool) → (ℕ → ℕ → Bool) → List (List ℕ) → Bool
is_grid along between [] = true
is_grid along between (line ∷ lines) =
    is_chain along line && (pass_by_place between line (first_line lines)
    && is_grid along between lines)

-- whether the letter a can be directly above the letter b: always if a is 0, which denotes a place outside the shape, and otherwise if a < b
abbrev pub may_stand_above : ℕ → ℕ → Bool
may_stand_above a b = nat_lt a (b + (1 - a))

-- whether these rows, with zeros at the cells of the inner shape, are the rows of a semistandard tableau
abbrev pub is_padded_tableau : List (List ℕ) → Bool
is_padded_tableau rows = is_grid nat_le may_stand_above rows

-- whether these columns, with zeros at the cells of the inner shape, are the columns of a semistandard tableau
abbrev pub are_tableau_columns : List (List ℕ) → Bool
are_tableau_columns columns = is_grid may_stand_above nat_le columns
