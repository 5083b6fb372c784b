-- The partitions made by adding a rim hook of k cells to a partition, listed by increasing last row of the rim hook. Rows are counted from 1. A
-- *lister* is an iterator over these partitions: one of them is the current one, and the others are listed already or still to be listed.
use Rattle.std.specs.Prelude.{◌≡◌, ℕ, ◌+◌, ◌-◌, ◌<◌, ◌≤◌, ◌==◌, nat_lt, nat_le, max, Bool, true}
use Rattle.std.specs.Prelude.{IsTrue, ◌&&◌, ◌||◌, cond, List, [], ◌∷◌, map, take, length, Some}
use Rattle.std.specs.Prelude.{None, flat_map}
use Rattle.sym_model.specs.Partition.{Falls, after, part, rows, size, without_last_zeros}
use Rattle.skew_shapes.specs.HookLists.{HooksListed}

-- whether a rim hook of k cells can be added to inner in the rows first, .., last: rows first + 1, .., last get the length of the row above them in
-- inner plus 1, and row first gets the remaining cells, at least one, without becoming longer than row first - 1
abbrev pub can_add : ℕ → List ℕ → ℕ → ℕ → Bool
can_add k inner first last =
    nat_lt (part inner first + (last - first)) (part inner last + k)
    && (first == 1 || nat_le (part inner last + k) (part inner (first - 1) + (last - first)))

-- the length of row `row` after the rim hook of k cells in the rows first, .., last is added to inner
abbrev pub added_row : ℕ → List ℕ → ℕ → ℕ → ℕ → ℕ
added_row k inner first last row =
    cond (nat_lt row first || nat_lt last row) (part inner row)
    (cond (row == first) (part inner last + k - (last - first)) (part inner (row - 1) + 1))

-- the partition made by adding the rim hook of k cells in the rows first, .., last to inner
abbrev pub with_hook : ℕ → List ℕ → ℕ → ℕ → List ℕ
with_hook k inner first last =
    without_last_zeros (map (added_row k inner first last) (after 0 (max (rows inner) last)))

-- the partitions made by adding to inner a rim hook of k cells whose last row is `last`: at most one
abbrev pub hooks_ending : ℕ → List ℕ → ℕ → List (List ℕ)
hooks_ending k inner last =
    flat_map (λ first. cond (can_add k inner first last) (with_hook k inner first last ∷ []) [])
    (after 0 last)

-- the partitions made by adding to inner a rim hook of k cells whose last row is after `last`
abbrev pub hooks_ending_after : ℕ → List ℕ → ℕ → List (List ℕ)
hooks_ending_after k inner last =
    flat_map (hooks_ending k inner) (after last (rows inner + k - last))

-- each rim hook of k cells that can be added to inner begins in row `first` or a later row, if it ends in row `last` or a later row
pub record BeginsFrom (k : ℕ) (inner : List ℕ) (first last : ℕ) : Type 0 where
  pub counts : 1 ≤ first
  pub ordered : first ≤ last + 1
  pub passed : (row : ℕ) → 1 ≤ row → row < first → part inner last + k + row ≤ part inner row + last

-- the current rim hook is that of k cells in the rows first, .., last: it can be added to inner, and the buffer has the lengths of the rows of inner
-- with this rim hook added
pub record IsAddedIn (buffer : List ℕ) (k : ℕ) (inner : List ℕ) (first last : ℕ) : Type 0 where
  pub ordered : first ≤ last
  pub fits : can_add k inner first last ≡ true
  pub rows_are : take (max (rows inner) last) buffer
      ≡ map (added_row k inner first last) (after 0 (max (rows inner) last))

-- the fields of a lister of added rim hooks are consistent: inner is weakly decreasing, the sizes are within the limits, no rim hook still to be
-- listed begins before row `first`, and if `listed`, the current rim hook is that in the rows first, .., last
pub record IsAdding (inner : List ℕ) (k : ℕ) (buffer : List ℕ) (first last : ℕ)
    (listed : Bool) : Type 0 where
  pub falls : Falls inner
  pub cells : size inner + k ≤ 4096
  pub few : rows inner + k ≤ 512
  pub room : length buffer ≡ rows inner + k
  pub within : last ≤ rows inner + k
  pub begins : BeginsFrom k inner first last
  pub current : IsTrue listed → IsAddedIn buffer k inner first last

-- the state of the lister: the partitions made by adding a rim hook whose last row is after `last` are still to be listed, and if `listed`, the one
-- made by adding the rim hook in the rows first, .., last is current
abbrev pub adding_at : List ℕ → ℕ → ℕ → ℕ → Bool → HooksListed
adding_at inner k first last listed =
    record {
      rest = hooks_ending_after k inner last;
      item = cond listed (Some (with_hook k inner first last)) None;
      base = inner;
    }
