-- Row insertion undone: the word of a pair (P, Q) of tableaux is found by removing from P, one after another, the cells of the numbers n, n - 1, ..,
-- 1 in Q (Fulton, 1.1 and 4.1; Schensted).
use Rattle.std.specs.Prelude.{ℕ, zero, suc, ◌==◌, nat_lt, cond, List, [], ◌∷◌, ◌++◌, length}
use Rattle.sym_model.specs.Schur.{letters_of}
pub use Rattle.sym_model.specs.NumberText.{without_last}

-- for a weakly increasing row whose first letter is smaller than b: the row with its last letter smaller than b replaced by b
abbrev pub row_back : ℕ → List ℕ → List ℕ
row_back b [] = []
row_back b (a ∷ []) = b ∷ []
row_back b (a ∷ c ∷ row) = cond (nat_lt c b) (a ∷ row_back b (c ∷ row)) (b ∷ c ∷ row)

-- for a weakly increasing row whose first letter is smaller than b: the letter that b replaces in `row_back`, the last one smaller than b
abbrev pub letter_back : ℕ → List ℕ → ℕ
letter_back b [] = 0
letter_back b (a ∷ []) = a
letter_back b (a ∷ c ∷ row) = cond (nat_lt c b) (letter_back b (c ∷ row)) a

-- the last letter of a row; 0 if the row is empty
abbrev pub last_of : List ℕ → ℕ
last_of [] = 0
last_of (a ∷ []) = a
last_of (a ∷ b ∷ row) = last_of (b ∷ row)

-- the rows with one more row on top; if that row is empty, only the rows
abbrev pub row_over : List ℕ → List (List ℕ) → List (List ℕ)
row_over [] rows = rows
row_over (a ∷ row) rows = (a ∷ row) ∷ rows

-- `removed i rows`: the last letter of row i, counted from 0, is taken out of its row. In the row above it replaces the last letter that is smaller,
-- which then moves on to the next row above in the same way. The result is the rows that are left, and the letter that leaves the first row.
abbrev pub removed : ℕ → List (List ℕ) → List (List ℕ) × ℕ
removed i [] = ([], 0)
removed zero (row ∷ rows) = (row_over (without_last row) rows, last_of row)
removed (suc i) (row ∷ rows) =
    let below = removed i rows in
    (row_back below.1 row ∷ below.0, letter_back below.1 row)

-- the first row, counted from 0, whose last letter is k; the number of rows if no row ends with k
abbrev pub row_ending : ℕ → List (List ℕ) → ℕ
row_ending k [] = 0
row_ending k (row ∷ rows) = cond (last_of row == k) 0 (suc (row_ending k rows))

-- the rows without the last letter of the first row that ends with k; the row is dropped if it becomes empty
abbrev pub without_step : ℕ → List (List ℕ) → List (List ℕ)
without_step k [] = []
without_step k (row ∷ rows) =
    cond (last_of row == k) (row_over (without_last row) rows) (row ∷ without_step k rows)

-- the letters that leave p if the cells in which q has k, k - 1, .., 1 are removed in this order (`removed`), written from right to left
abbrev pub steps_back : ℕ → List (List ℕ) → List (List ℕ) → List ℕ
steps_back zero p q = []
steps_back (suc k) p q =
    let off = removed (row_ending (suc k) q) p in
    steps_back k off.0 (without_step (suc k) q) ++ off.1 ∷ []

-- the word whose insertion tableau is p and whose recording tableau is q: the cells of p are removed in decreasing order of their numbers in q
abbrev pub word_back : List (List ℕ) → List (List ℕ) → List ℕ
word_back p q = steps_back (length (letters_of q)) p q
