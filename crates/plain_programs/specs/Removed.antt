-- The conditions that the results of removing rim hooks satisfy.
use Rattle.std.specs.Prelude.{◌≡◌, ℕ, ◌+◌, ◌-◌, ◌==◌, nat_lt, cond, List, Option, Some, None}
use Rattle.std.specs.Prelude.{slice_index}
use Rattle.sym_model.specs.Partition.{IsPartition, size}
use Rattle.sym_model.specs.Strip.{height}
use Rattle.strip_laws.specs.HookRows.{IsHookRows}
use Rattle.sym_model.specs.RimHookReduction.{IsRemoval, HasNoRemoval}
use Rattle.plain_programs.specs.declared.removals.Removal.{Removal}

-- if there is a result, it is a partition that is left when a rim hook of n cells is removed from `shape`, with the
-- height of the rim hook; if it is `None`, no rim hook of n cells can be removed
abbrev pub IsFound : ℕ → List ℕ → Option Removal → Type 0
IsFound n shape None = HasNoRemoval n shape
IsFound n shape (Some removal) =
    IsRemoval n shape removal.left.items × (height shape removal.left.items ≡ removal.height)

-- no rim hook of n cells with the rows first, .., last, counted from 1, can be removed from `shape`
abbrev pub HasNoneInRows : ℕ → List ℕ → ℕ → ℕ → Type 0
HasNoneInRows n shape first last =
    (left : List ℕ) → IsPartition left → IsHookRows shape left first last
    → size shape ≡ size left + n → ⊥

-- if there is a result, it is the removal of some rim hook of n cells from `shape` (`IsFound`); if it is `None`, no
-- rim hook of n cells with the rows first + 1, .., last + 1, counted from 1, can be removed
abbrev pub IsFoundInRows : ℕ → List ℕ → ℕ → ℕ → Option Removal → Type 0
IsFoundInRows n shape first last None = HasNoneInRows n shape (first + 1) (last + 1)
IsFoundInRows n shape first last (Some removal) = IsFound n shape (Some removal)

-- if there is a result, it is the removal of some rim hook of n cells from `shape` (`IsFound`); if it is `None`, no
-- rim hook of n cells whose first row is first + 1, counted from 1, can be removed
abbrev pub IsFoundFrom : ℕ → List ℕ → ℕ → Option Removal → Type 0
IsFoundFrom n shape first None = (last : ℕ) → HasNoneInRows n shape (first + 1) last
IsFoundFrom n shape first (Some removal) = IsFound n shape (Some removal)

-- part i, counted from 0, of the partition that is left when a rim hook with the rows first, .., last is removed from
-- `shape`: `rest` in row last, the part of the next row minus 1 in the rows from first to last - 1, and the part of
-- `shape` in every other row
abbrev pub left_part : List ℕ → ℕ → ℕ → ℕ → ℕ → ℕ
left_part shape first last rest i =
    cond (nat_lt i first) (slice_index shape i)
    (cond (nat_lt i last) (slice_index shape (i + 1) - 1)
    (cond (i == last) rest (slice_index shape i)))
