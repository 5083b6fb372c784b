-- A weight of permutations that decreases when the transition rule replaces a permutation by others.
use Rattle.std.specs.Prelude.{ℕ, ◌^◌, List}
pub use Rattle.schubert_laws.specs.TransitionOrder.{IsShort, rank}

-- a weight of permutations: for w with at most 255 letters, the weights of all permutations that replace w in one
-- step of the transition rule have a sum less than the weight of w
abbrev pub weight : List ℕ → ℕ
weight w = 256 ^ rank 256 w
