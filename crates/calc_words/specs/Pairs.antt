-- The pairs of an insertion tableau and a recording tableau from which the command `unrsk` finds a word.
use Rattle.std.specs.Prelude.{◌≡◌, ◌≤◌, [], length}
use Rattle.sym_model.specs.CommandOffence.{most_letters}
use Rattle.sym_model.specs.Schur.{letters_of}
use Rattle.sym_model.specs.StandardTableau.{IsStandard}
use Rattle.sym_model.specs.Tableau.{SkewFilling}

-- p and q are tableaux of the same straight shape, q is standard, and p has at most 256 entries
pub record IsPair (p q : SkewFilling) : Type 0 where
  pub straight : p.inner ≡ []
  pub standard_straight : q.inner ≡ []
  pub standard : IsStandard q.rows
  pub one_shape : p.outer ≡ q.outer
  pub few : length (letters_of p.rows) ≤ most_letters
