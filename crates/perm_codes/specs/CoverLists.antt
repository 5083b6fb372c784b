-- The covers of a permutation at a place, as a pair of lists.
use Rattle.std.specs.Prelude.{ℕ, List}

-- the covers w·t_rj with j > r, and the covers w·t_ir with i < r, of a permutation w at a place r
pub record CoverLists : Type 0 where
  pub up : List (List ℕ)
  pub down : List (List ℕ)
