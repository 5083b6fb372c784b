-- Tableaux as typed, row by row: the number words (words of decimal digits) of each row. The word `.` is typed for a row without numbers, and `/`
-- between two rows.
use Rattle.std.specs.Prelude.{ℕ, ◌+◌, ◌==◌, cond, min, List, [], ◌∷◌, ◌++◌, length, codes}
use Rattle.std.proofs.Common.{inl, inr}
use Rattle.sym_model.specs.ExpressionOffence.{shape}
use Rattle.sym_model.specs.Form.{Written, sequence}
use Rattle.sym_model.specs.CommandOffence.{Offence, PlacedRow}
use Rattle.sym_model.specs.WordForms.{the, row_words, tableau_words, numbers}

-- the words of a row with given number words: these words, or `.` if there is none
abbrev pub row_text : List (List ℕ) → List (List ℕ)
row_text [] = codes "." ∷ []
row_text (w ∷ row) = w ∷ row

-- the words of the rows after the first one, each row after a word `/`
abbrev pub further_text : List (List (List ℕ)) → List (List ℕ)
further_text [] = []
further_text (row ∷ rows) = codes "/" ∷ (row_text row ++ further_text rows)

-- the words of all rows of a tableau, with given number words in each row
abbrev pub rows_text : List (List (List ℕ)) → List (List ℕ)
rows_text [] = []
rows_text (row ∷ rows) = row_text row ++ further_text rows

-- the number words of a row, for a value that denotes the words of the row (`Written row_words`)
abbrev pub written_row : Written row_words → List (List ℕ)
written_row (inl dot) = []
written_row (inr x) = x.0 ∷ x.1

-- the number words of each row after the first one, for values that denote the words of these rows, each with the `/` before it
abbrev pub later_rows : List (Written (sequence (the (codes "/")) row_words)) → List (List (List ℕ))
later_rows [] = []
later_rows (x ∷ xs) = written_row x.1 ∷ later_rows xs

-- the number words of each row of a tableau, for a value that denotes the words of the tableau (`Written tableau_words`)
abbrev pub written_rows : Written tableau_words → List (List (List ℕ))
written_rows x = written_row x.0 ∷ later_rows x.1

-- the rows, each as its numbers and the index of its first word, if the first row begins at word k
abbrev pub rows_at : ℕ → List (List (List ℕ)) → List PlacedRow
rows_at k [] = []
rows_at k (row ∷ rows) = (k, numbers row) ∷ rows_at (k + length (row_text row) + 1) rows

-- `left_behind k lengths rows later`: the errors after a row that ends just before word k, if the rows after it are `rows` and must have the lengths
-- `lengths`. If `lengths` and `rows` are both empty, there is no error. If only one of them is empty, there is one error, at word k. Otherwise the
-- errors are `later`, those of `rows`
abbrev pub left_behind : ℕ → List ℕ → List (List (List ℕ)) → List Offence → List Offence
left_behind k [] [] later = []
left_behind k [] (row ∷ rows) later = (k, 0, shape) ∷ []
left_behind k (n ∷ lengths) [] later = (k, 0, shape) ∷ []
left_behind k (n ∷ lengths) (row ∷ rows) later = later

-- `left_at k lengths rows`, for lists that are not empty: the error of rows that begin at word k and must have these lengths. If a row has a wrong
-- length, the error is in the first such row: at its entry with the index min(its length, the length that it must have). If only the number of rows
-- is wrong, the error is after the last row for which a length is given
abbrev pub left_at : ℕ → List ℕ → List (List (List ℕ)) → List Offence
left_at k [] rows = []
left_at k (n ∷ lengths) [] = []
left_at k (n ∷ lengths) (row ∷ rows) =
    cond (length row == n)
    (left_behind (k + length (row_text row)) lengths rows
    (left_at (k + length (row_text row) + 1) lengths rows))
    ((k + min n (length row), 0, shape) ∷ [])
