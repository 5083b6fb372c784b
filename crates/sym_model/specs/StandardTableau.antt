-- Standard tableaux (Fulton, Notation).
use Rattle.std.specs.Prelude.{◌≡◌, ℕ, List, length, replicate}
use Rattle.sym_model.specs.Schur.{letters_of, content}
use Rattle.sym_model.specs.Tableau.{IsStraightTableau}

-- a standard tableau: a semistandard tableau of straight shape in which each number from 1 to the number of its
-- cells occurs once
pub record IsStandard (rows : List (List ℕ)) : Type 0 where
  pub tableau : IsStraightTableau rows
  pub once : content (length (letters_of rows)) (letters_of rows)
      ≡ replicate (length (letters_of rows)) 1
