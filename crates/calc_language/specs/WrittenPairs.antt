-- The two tableaux of `unrsk`, if its words have no error.
use Rattle.std.specs.Prelude.{◌≡◌, ◌≤◌, ℕ, List, length}
use Rattle.sym_model.specs.Schur.{letters_of}
use Rattle.sym_model.specs.Tableau.{IsStraightTableau, shape_of}
use Rattle.sym_model.specs.StandardTableau.{IsStandard}
use Rattle.sym_model.specs.CommandOffence.{most_letters}

-- p is a straight tableau with at most 256 entries, and q a standard tableau of the same shape
pub record IsWrittenPair (p q : List (List ℕ)) : Type 0 where
  pub straight : IsStraightTableau p
  pub standard : IsStandard q
  pub one_shape : shape_of p ≡ shape_of q
  pub few : length (letters_of p) ≤ most_letters
