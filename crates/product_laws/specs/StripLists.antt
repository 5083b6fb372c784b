-- Lists of the partitions that are obtained from a partition by adding a horizontal strip, a vertical strip or a rim hook.
use Rattle.std.specs.Prelude.{◌≡◌, ◌↔◌, ℕ, ◌+◌, List}
use Rattle.sym_model.specs.Sum.{Among, Once}
use Rattle.sym_model.specs.Partition.{IsPartition, size}
use Rattle.sym_model.specs.Strip.{IsHorizontalStrip, IsVerticalStrip, IsRimHook}

-- the list has exactly the lists of numbers with the property P, each once
pub record ListsEach (P : List ℕ → Type 0) (list : List (List ℕ)) : Type 0 where
  pub once : Once list
  pub members : (ν : List ℕ) → Among ν list ↔ P ν

-- ν is a partition, and ν/inner is a horizontal strip of k cells
abbrev pub AddsHorizontalStrip : ℕ → List ℕ → List ℕ → Type 0
AddsHorizontalStrip k inner ν =
    IsPartition ν × (size ν ≡ size inner + k) × IsHorizontalStrip ν inner

-- ν is a partition, and ν/inner is a vertical strip of k cells
abbrev pub AddsVerticalStrip : ℕ → List ℕ → List ℕ → Type 0
AddsVerticalStrip k inner ν = IsPartition ν × (size ν ≡ size inner + k) × IsVerticalStrip ν inner

-- ν is a partition, and ν/inner is a rim hook of k cells
abbrev pub AddsRimHook : ℕ → List ℕ → List ℕ → Type 0
AddsRimHook k inner ν = IsPartition ν × (size ν ≡ size inner + k) × IsRimHook ν inner
