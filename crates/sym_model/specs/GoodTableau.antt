-- Column readings, good tableaux and their counts (Stembridge, A concise proof of the Littlewood–Richardson rule).
-- A tableau is good for a partition if, for each j, the partition plus the content of the columns to the right of
-- column j is weakly decreasing. It is a lattice tableau if it is good for the empty partition.
use Rattle.std.specs.Prelude.{ℕ, ◌+◌, ◌-◌, nat_le, nat_lt, Bool, true, false, ◌&&◌, ◌||◌, cond}
use Rattle.std.specs.Prelude.{List, [], ◌∷◌, ◌++◌, map, length, reverse, take, drop, filter}
use Rattle.std.specs.Prelude.{flat_map}
use Rattle.sym_model.specs.Polynomial.{same, join}
use Rattle.sym_model.specs.Partition.{part, rows, columns, after, cells, without_last_zeros}
use Rattle.sym_model.specs.Schur.{words, content, tableaux}

-- the letter in column j of a row of a filling, as a list; the empty list if the row has no cell in that column. The
-- cells of the row begin at column c + 1.
abbrev pub letter_in : ℕ → List ℕ → ℕ → List ℕ
letter_in c row j = cond (nat_lt c j) (take 1 (drop (j - (c + 1)) row)) []

-- column j of a filling, from top to bottom; `inner` is the inner partition of its skew shape
abbrev pub column : List ℕ → List (List ℕ) → ℕ → List ℕ
column inner [] j = []
column inner (row ∷ rest) j = letter_in (part inner 1) row j ++ column (drop 1 inner) rest j

-- the letters in the columns to the right of column j of a filling of outer/inner, as a word: the columns from the
-- rightmost to the leftmost, each from top to bottom
abbrev pub reading_right_of : ℕ → List ℕ → List ℕ → List (List ℕ) → List ℕ
reading_right_of j outer inner filling =
    flat_map (column inner filling) (reverse (after j (columns outer - j)))

-- the column reading of a filling of outer/inner: all its columns from the rightmost to the leftmost, each from top
-- to bottom
abbrev pub column_reading : List ℕ → List ℕ → List (List ℕ) → List ℕ
column_reading outer inner filling = reading_right_of 0 outer inner filling

-- whether the list is weakly decreasing
abbrev pub is_falling : List ℕ → Bool
is_falling [] = true
is_falling (a ∷ []) = true
is_falling (a ∷ b ∷ numbers) = nat_le b a && is_falling (b ∷ numbers)

-- whether each element of the list passes the test
abbrev pub every : {A : Type 0} → (A → Bool) → List A → Bool
every test [] = true
every test (x ∷ xs) = test x && every test xs

-- whether the list w is one of the lists
abbrev pub is_among : List ℕ → List (List ℕ) → Bool
is_among w [] = false
is_among w (v ∷ vs) = same w v || is_among w vs

-- whether a filling of outer/inner with entries from 1 to k is good for `start`, a partition with at most k rows: for
-- each j from 0 to the number of columns of outer, start plus the content of the columns to the right of column j is
-- weakly decreasing, that is, a partition
abbrev pub is_good : ℕ → List ℕ → List ℕ → List ℕ → List (List ℕ) → Bool
is_good k start outer inner filling =
    every (λ j. is_falling (join start (content k (reading_right_of j outer inner filling))))
    (0 ∷ after 0 (columns outer))

-- the semistandard tableaux of outer/inner with entries from 1 to k that are good for the partition `start`
-- (`is_good`); the empty list if start has more than k rows
abbrev pub good_tableaux : ℕ → List ℕ → List ℕ → List ℕ → List (List (List ℕ))
good_tableaux k start outer inner =
    cond (nat_le (rows start) k) (filter (is_good k start outer inner) (tableaux k outer inner)) []

-- the column readings of the semistandard tableaux of outer/inner with entries from 1 to k that are good for the
-- partition `start`, in increasing lexicographic order
abbrev pub good_readings : ℕ → List ℕ → List ℕ → List ℕ → List (List ℕ)
good_readings k start outer inner =
    let readings = map (column_reading outer inner) (good_tableaux k start outer inner) in
    filter (λ w. is_among w readings) (words k (length (cells outer inner)))

-- the number of semistandard tableaux T of the shape μ with entries from 1 to k that are good for λ and for which λ
-- plus the content of T is ν
abbrev pub product_count : ℕ → List ℕ → List ℕ → List ℕ → ℕ
product_count k λ' μ ν =
    length (filter (λ w. same (without_last_zeros (join λ' (content k w))) ν)
    (good_readings k λ' μ []))

-- the column readings of the lattice tableaux of outer/inner, in increasing lexicographic order: the tableaux that
-- are good for the empty start, with entries up to the number of rows of outer
abbrev pub lattice_readings : List ℕ → List ℕ → List (List ℕ)
lattice_readings outer inner = good_readings (rows outer) [] outer inner

-- the number of lattice tableaux of outer/inner with the content κ
abbrev pub skew_count : List ℕ → List ℕ → List ℕ → ℕ
skew_count outer inner κ =
    length
    (filter (λ w. same (without_last_zeros (content (rows outer) w)) κ)
    (lattice_readings outer inner))
