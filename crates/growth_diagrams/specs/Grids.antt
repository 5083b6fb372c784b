-- Growth grids in memory: the lines of growth shapes of a permutation, as vectors.
use Rattle.std.specs.Prelude.{◌≡◌, ℕ, List, map, Vec}
use Rattle.std.specs.declared.alloc.Global.{Global}
use Rattle.sym_model.specs.Growth.{grid_lines}
use Rattle.perm_codes.specs.Limits.{IsWithinLimits}

-- the lists of shapes that the vectors of a list hold
abbrev pub lines_in : List (Vec (List ℕ) Global) → List (List (List ℕ))
lines_in lines = map (λ line. line.items) lines

-- w is a permutation within the limits, and `lines` are the lines of its growth grid
pub record IsGridOf (w : List ℕ) (lines : List (Vec (List ℕ) Global)) : Type 0 where
  pub limits : IsWithinLimits w
  pub grid : lines_in lines ≡ grid_lines w
