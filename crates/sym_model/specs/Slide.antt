-- Slides of skew tableaux (Schützenberger's jeu de taquin; Fulton, 1.2).
use Rattle.std.specs.Prelude.{◌≡◌, ℕ, zero, suc, ◌+◌, ◌-◌, ◌<◌, ◌≤◌, nat_le, Bool, true, false}
use Rattle.std.specs.Prelude.{cond, List, [], ◌∷◌, ◌++◌, length, take, drop}
use Rattle.sym_model.specs.Partition.{part, without_last_zeros}
use Rattle.sym_model.specs.Schur.{letters_of}
use Rattle.sym_model.specs.Tableau.{SkewFilling}

-- whether the letter below the empty cell moves up into it: there is such a letter, and it is at most the right
-- neighbour of the empty cell, if there is one. `right` has the letters right of the empty cell in its row, and
-- `lower` the letters of the next row from the column of the empty cell on.
abbrev pub moves_up : List ℕ → List ℕ → Bool
moves_up right [] = false
moves_up [] (b ∷ lower) = true
moves_up (a ∷ right) (b ∷ lower) = nat_le b a

-- the number of letters on the right of the empty cell (`right`) that move to the left by one cell, one after another,
-- until a letter of the next row (`lower`) moves up or the row ends
abbrev pub moves_left : List ℕ → List ℕ → ℕ
moves_left [] lower = 0
moves_left (a ∷ right) lower =
    cond (moves_up (a ∷ right) lower) 0 (suc (moves_left right (drop 1 lower)))

-- the rows that a slide gives, from the row of the empty cell on. `left` and `right` are the letters of that row on
-- the left and on the right of the empty cell, the last argument has the rows below, and `inner` has the inner parts
-- of all these rows.
abbrev pub slid_rows : List ℕ → List ℕ → List ℕ → List (List ℕ) → List (List ℕ)
slid_rows inner left right [] = (left ++ right) ∷ []
slid_rows inner left right (row ∷ below) =
    let place = part inner 1 + length left - part inner 2 in
    let moved = moves_left right (drop place row) in
    let risen = take 1 (drop (place + moved) row) in
    (left ++ (take moved right ++ (risen ++ drop moved right)))
    ∷ cond (nat_le (length row) (place + moved)) (row ∷ below)
    (slid_rows (drop 1 inner) (take (place + moved) row) (drop (place + moved + 1) row) below)

-- the list with the number at place i, counted from 1, decreased by 1
abbrev pub lowered_at : ℕ → List ℕ → List ℕ
lowered_at i [] = []
lowered_at zero (a ∷ numbers) = a ∷ numbers
lowered_at (suc zero) (a ∷ numbers) = (a - 1) ∷ numbers
lowered_at (suc (suc i)) (a ∷ numbers) = a ∷ lowered_at (suc i) numbers

-- the outer part of each row: its inner part plus the number of its letters
abbrev pub outer_parts : List ℕ → List (List ℕ) → List ℕ
outer_parts inner [] = []
outer_parts inner (row ∷ rows) = (part inner 1 + length row) ∷ outer_parts (drop 1 inner) rows

-- the slide of the tableau t from the inner corner in the given row. The corner becomes an empty cell. Then, as long
-- as there is a letter on the right of the empty cell or below it, the smaller of these letters (if they are equal,
-- the lower one) moves into the empty cell, and the cell that it has left is the next empty one. At the end the empty
-- cell is removed from the outer shape.
abbrev pub slide : ℕ → SkewFilling → SkewFilling
slide row t =
    let inner = without_last_zeros (lowered_at row t.inner) in
    let kept = take (row - 1) t.rows in
    let here = drop (row - 1) t.rows in
    let rows =
    kept ++ slid_rows (drop (row - 1) inner) [] (letters_of (take 1 here)) (drop 1 here) in
    let outer = without_last_zeros (outer_parts inner rows) in
    record { outer = outer; inner = inner; rows = take (length outer) rows }

-- the partition `inner` has a corner in the given row: a cell that is the last of its row and of its column
abbrev pub HasInnerCorner : ℕ → List ℕ → Type 0
HasInnerCorner row inner = (1 ≤ row) × (part inner (row + 1) < part inner row)

-- slides from the inner corners in the listed rows, one after another, lead from the tableau t to the tableau s
abbrev pub SlidesTo : SkewFilling → List ℕ → SkewFilling → Type 0
SlidesTo t [] s = t ≡ s
SlidesTo t (row ∷ chosen) s = HasInnerCorner row t.inner × SlidesTo (slide row t) chosen s

-- slides from inner corners lead from the tableau t to the tableau s, and the inner partition of s is empty
pub record IsReached (t s : SkewFilling) : Type 0 where
  pub chosen : List ℕ
  pub slides : SlidesTo t chosen s
  pub straight : s.inner ≡ []
