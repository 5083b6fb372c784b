-- Rim hooks by their rows: the conditions on the parts of two partitions for outer/inner to be a rim hook.
use Rattle.std.specs.Prelude.{◌≡◌, ℕ, ◌+◌, ◌<◌, ◌≤◌, List}
use Rattle.sym_model.specs.Partition.{part}

-- outer and inner differ exactly in the rows first, .., last. In each of these rows except the first, the part of outer is 1 greater than the part of
-- inner in the row above, so that the last cell of the row is directly below the first cell of outer/inner in the row above.
pub record IsHookRows (outer inner : List ℕ) (first last : ℕ) : Type 0 where
  pub counts : 1 ≤ first
  pub ordered : first ≤ last
  pub above : (i : ℕ) → 1 ≤ i → i < first → part outer i ≡ part inner i
  pub below : (i : ℕ) → last < i → part outer i ≡ part inner i
  pub chained : (i : ℕ) → first ≤ i → i < last → part outer (i + 1) ≡ part inner i + 1
  pub end : part inner last < part outer last
