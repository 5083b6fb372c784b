-- Straight tableaux, described row by row, whose letters are at least a given number.
use Rattle.std.specs.Prelude.{ℕ, zero, suc, ◌+◌, ◌<◌, ◌≡◌, List, [], ◌∷◌, length, ◌⊎◌}
use Rattle.sym_model.specs.Bounded.{AreBelow}
use Rattle.tableau_laws.specs.Rows.{RisesFrom}
use Rattle.tableau_laws.specs.Grid.{first_line}

-- `StandsOn lower upper`: each letter of the row `lower` has a letter of the row `upper` above it, and that letter is smaller
abbrev pub StandsOn : List ℕ → List ℕ → Type 0
StandsOn [] upper = Unit {0}
StandsOn (b ∷ lower) [] = ⊥
StandsOn (b ∷ lower) (a ∷ upper) = (a < b) × StandsOn lower upper

-- the row is not empty and weakly increasing, its letters are at least m, and each letter of the first row below has
-- a smaller letter above it
pub record IsRowOver (m : ℕ) (row : List ℕ) (below : List (List ℕ)) : Type 0 where
  pub filled : 0 < length row
  pub rises : RisesFrom m row
  pub stands : StandsOn (first_line below) row

-- the rows are those of a semistandard tableau of straight shape, and all letters are at least m
abbrev pub AreRows : ℕ → List (List ℕ) → Type 0
AreRows m [] = Unit {0}
AreRows m (row ∷ rows) = IsRowOver m row rows × AreRows m rows

-- each letter of each row is less than k
abbrev pub RowsBelow : ℕ → List (List ℕ) → Type 0
RowsBelow k [] = Unit {0}
RowsBelow k (row ∷ rows) = AreBelow k row × RowsBelow k rows

-- `HasOneMore large small`: the shape `large` is `small` with one more cell, at the end of a row or in a new row
abbrev pub HasOneMore : List ℕ → List ℕ → Type 0
HasOneMore [] small = ⊥
HasOneMore (a ∷ large) [] = (a ≡ 1) × (large ≡ [])
HasOneMore (a ∷ large) (b ∷ small) =
    ((a ≡ b + 1) × (large ≡ small)) ⊎ ((a ≡ b) × HasOneMore large small)

-- the last cell of row i of the shape, counted from 0, is a corner: the next row is shorter
abbrev pub HasCorner : ℕ → List ℕ → Type 0
HasCorner i [] = ⊥
HasCorner zero (a ∷ []) = Unit {0}
HasCorner zero (a ∷ b ∷ shape) = b < a
HasCorner (suc i) (a ∷ shape) = HasCorner i shape
