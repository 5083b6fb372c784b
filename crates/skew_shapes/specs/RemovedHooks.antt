-- The partitions made by removing a rim hook of k cells from a partition; those for which the rim hook begins in a lower row come first. Rows are
-- counted from 1, from the top. A *lister* is an iterator over these partitions: one of them is the current one, and the others are listed already or
-- still to be listed.
use Rattle.std.specs.Prelude.{◌≡◌, ℕ, zero, suc, ◌+◌, ◌-◌, ◌<◌, ◌≤◌, ◌==◌, nat_lt, nat_le, Bool}
use Rattle.std.specs.Prelude.{true, IsTrue, ◌&&◌, ◌||◌, cond, List, [], ◌∷◌, ◌++◌, map, length}
use Rattle.std.specs.Prelude.{Some, None, flat_map}
use Rattle.sym_model.specs.Partition.{Falls, after, part, rows, without_last_zeros}
use Rattle.skew_shapes.specs.HookLists.{HooksListed}

-- whether a rim hook of k cells can be removed from outer in the rows first, .., last: each of the rows first, .., last - 1 gets a length that is 1
-- less than the length in outer of the row below it; and row last loses the remaining cells, at least one, without becoming shorter than row last + 1
abbrev pub can_remove : ℕ → List ℕ → ℕ → ℕ → Bool
can_remove k outer first last =
    nat_le (part outer (last + 1) + k) (part outer first + (last - first))
    && nat_lt (part outer first + (last - first)) (part outer last + k)

-- the length of row `row` after the rim hook of k cells in the rows first, .., last is removed from outer
abbrev pub left_row : ℕ → List ℕ → ℕ → ℕ → ℕ → ℕ
left_row k outer first last row =
    cond (nat_lt row first || nat_lt last row) (part outer row)
    (cond (row == last) (part outer first + (last - first) - k) (part outer (row + 1) - 1))

-- the partition that is left if the rim hook of k cells in the rows first, .., last is removed from outer
abbrev pub without_hook : ℕ → List ℕ → ℕ → ℕ → List ℕ
without_hook k outer first last =
    without_last_zeros (map (left_row k outer first last) (after 0 (rows outer)))

-- the partitions that are left by removing from outer a rim hook of k cells whose first row is `first`: at most one
abbrev pub hooks_beginning : ℕ → List ℕ → ℕ → List (List ℕ)
hooks_beginning k outer first =
    flat_map (λ last. cond (can_remove k outer first last)
    (without_hook k outer first last ∷ []) []) (after (first - 1) (rows outer + 1 - first))

-- the partitions that are left by removing from outer a rim hook of k cells whose first row is one of the rows 1, .., above; those with a greater
-- first row come first
abbrev pub hooks_beginning_within : ℕ → List ℕ → ℕ → List (List ℕ)
hooks_beginning_within k outer zero = []
hooks_beginning_within k outer (suc above) =
    hooks_beginning k outer (suc above) ++ hooks_beginning_within k outer above

-- each rim hook of k cells that can be removed from outer ends in row `last` or an earlier row, if it begins in row `first` or an earlier row
pub record EndsUpTo (k : ℕ) (outer : List ℕ) (first last : ℕ) : Type 0 where
  pub counts : 1 ≤ first
  pub ordered : first ≤ last + 1
  pub within : last ≤ rows outer
  pub passed : (row : ℕ) → last < row → row ≤ rows outer
      → part outer row + first + k ≤ part outer first + row

-- the current rim hook is that of k cells in the rows first, .., last: it can be removed from outer, and the buffer has the lengths of the rows of
-- outer after its removal
pub record IsLeftIn (buffer : List ℕ) (k : ℕ) (outer : List ℕ) (first last : ℕ) : Type 0 where
  pub ordered : first ≤ last
  pub fits : can_remove k outer first last ≡ true
  pub rows_are : buffer ≡ map (left_row k outer first last) (after 0 (rows outer))

-- the fields of a lister of removed rim hooks are consistent: outer is weakly decreasing and has at most 512 rows, the buffer has a place for each
-- row of outer, no rim hook that is still to be listed ends after row `last`, and if `listed`, the current rim hook is the one in the rows first, ..,
-- last
pub record IsRemoving (outer : List ℕ) (k : ℕ) (buffer : List ℕ) (first last : ℕ)
    (listed : Bool) : Type 0 where
  pub falls : Falls outer
  pub few : rows outer ≤ 512
  pub room : length buffer ≡ rows outer
  pub ends : EndsUpTo k outer first last
  pub current : IsTrue listed → IsLeftIn buffer k outer first last

-- the state of the lister: the partitions left by removing a rim hook whose first row is before `first` are still to be listed, and if `listed`, the
-- one left by removing the rim hook in the rows first, .., last is current
abbrev pub removing_at : List ℕ → ℕ → ℕ → ℕ → Bool → HooksListed
removing_at outer k first last listed =
    record {
      rest = hooks_beginning_within k outer (first - 1);
      item = cond listed (Some (without_hook k outer first last)) None;
      base = outer;
    }
