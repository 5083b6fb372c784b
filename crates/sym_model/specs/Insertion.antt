-- Row insertion, and the insertion and recording tableaux of a word (Fulton, 1.1 and 4.1; Robinson, Schensted and
-- Knuth).
use Rattle.std.specs.Prelude.{ℕ, ◌+◌, nat_lt, cond, List, [], ◌∷◌, ◌++◌, length, reverse, Option}
use Rattle.std.specs.Prelude.{Some, None}
use Rattle.sym_model.specs.Schur.{letters_of}

-- the row with a inserted: a replaces the first letter that is greater than a, or is appended if there is no such
-- letter
abbrev pub row_with : ℕ → List ℕ → List ℕ
row_with a [] = a ∷ []
row_with a (b ∷ row) = cond (nat_lt a b) (a ∷ row) (b ∷ row_with a row)

-- the letter that a replaces if it is inserted into the row: the first letter greater than a; None if there is no
-- such letter
abbrev pub bumped : ℕ → List ℕ → Option ℕ
bumped a [] = None
bumped a (b ∷ row) = cond (nat_lt a b) (Some b) (bumped a row)

-- the tableau with the letter a inserted: a goes into the first row, the letter that a replaces there goes into the
-- next row, and so on, until a letter is appended to a row; for None, the tableau unchanged
abbrev pub inserted : List (List ℕ) → Option ℕ → List (List ℕ)
inserted rows None = rows
inserted [] (Some a) = (a ∷ []) ∷ []
inserted (row ∷ rows) (Some a) = row_with a row ∷ inserted rows (bumped a row)

-- the recording tableau q with k appended to its first row that is shorter than the row of p at the same place; a row
-- that q does not have counts as empty
abbrev pub with_step : ℕ → List (List ℕ) → List (List ℕ) → List (List ℕ)
with_step k [] q = q
with_step k (row ∷ p) [] = (k ∷ []) ∷ []
with_step k (row ∷ p) (steps ∷ q) =
    cond (nat_lt (length steps) (length row)) ((steps ++ k ∷ []) ∷ q) (steps ∷ with_step k p q)

-- the tableaux p and q after the letters of the word are inserted into p one by one. The letters are numbered from k
-- on; for each letter, the cell that is new in p is added to q with the number of the letter.
abbrev pub inserted_from : ℕ → List ℕ → List (List ℕ) → List (List ℕ)
    → List (List ℕ) × List (List ℕ)
inserted_from k [] p q = (p, q)
inserted_from k (a ∷ w) p q =
    let next = inserted p (Some a) in
    inserted_from (k + 1) w next (with_step k next q)

-- the insertion tableau P of a word and its recording tableau Q
abbrev pub insertion_pair : List ℕ → List (List ℕ) × List (List ℕ)
insertion_pair w = inserted_from 1 w [] []

-- the reading word of a tableau: its rows from the bottom up, each from left to right
abbrev pub reading_word : List (List ℕ) → List ℕ
reading_word rows = letters_of (reverse rows)
