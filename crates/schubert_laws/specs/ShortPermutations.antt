-- The labels of Schubert polynomials in a number of variables.
use Rattle.std.specs.Prelude.{◌≡◌, ℕ, ◌<◌, ◌≤◌, List, length}
use Rattle.sym_model.specs.Permutation.{IsOneLine, kept}

-- a permutation of 1 to n letters without fixed letters at the end, except the list of the one letter 1
pub record IsShort (n : ℕ) (w : List ℕ) : Type 0 where
  pub one_line : IsOneLine w
  pub short : length w ≤ n
  pub some : 0 < length w
  pub whole : kept w ≡ w
