-- Semistandard tableaux of skew shapes with any positive entries, and those of straight shape (Fulton, 1 and 5.1).
use Rattle.std.specs.Prelude.{◌≡◌, ℕ, nat_le, Bool, true, List, [], map, length}
use Rattle.sym_model.specs.Partition.{IsPartition}
use Rattle.sym_model.specs.Schur.{row_lengths, semistandard, contains, letters_of}
use Rattle.sym_model.specs.GoodTableau.{every}

-- a filling of the skew shape outer/inner: a word for each row, with one letter for each cell
pub record SkewFilling : Type 0 where
  pub outer : List ℕ
  pub inner : List ℕ
  pub rows : List (List ℕ)

-- whether all letters of the word are positive
abbrev pub are_letters : List ℕ → Bool
are_letters w = every (λ a. nat_le 1 a) w

-- the rows are a semistandard tableau of the skew shape outer/inner, with positive entries
pub record IsTableau (outer inner : List ℕ) (rows : List (List ℕ)) : Type 0 where
  pub outside : IsPartition outer
  pub inside : IsPartition inner
  pub holds : contains outer inner ≡ true
  pub cells : map length rows ≡ row_lengths outer inner
  pub letters : are_letters (letters_of rows) ≡ true
  pub order : semistandard inner rows ≡ true

-- the shape of a filling of straight shape: the number of letters of each row
abbrev pub shape_of : List (List ℕ) → List ℕ
shape_of rows = map length rows

-- the rows are a semistandard tableau with positive entries, of straight shape: its inner partition is empty
abbrev pub IsStraightTableau : List (List ℕ) → Type 0
IsStraightTableau rows = IsTableau (shape_of rows) [] rows
