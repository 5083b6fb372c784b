-- Lists of the partitions made from a partition by adding or removing a rim hook. A lister is an iterator over such a list.
use Rattle.std.specs.Prelude.{◌≡◌, ◌↔◌, ℕ, ◌+◌, List, Option}
use Rattle.sym_model.specs.Sum.{Among}
use Rattle.sym_model.specs.Partition.{IsPartition, size}
use Rattle.sym_model.specs.PartitionList.{FallsLexicographically}
use Rattle.sym_model.specs.Strip.{IsRimHook}

-- the list has exactly the partitions ν such that ν/inner is a rim hook of k cells, in decreasing lexicographic order
pub record AreHooksAdded (inner : List ℕ) (k : ℕ) (list : List (List ℕ)) : Type 0 where
  pub falls : FallsLexicographically list
  pub members : (ν : List ℕ) → Among ν list
      ↔ (IsPartition ν × (size ν ≡ size inner + k) × IsRimHook ν inner)

-- the list has exactly the partitions ν such that outer/ν is a rim hook of k cells, in decreasing lexicographic order
pub record AreHooksRemoved (outer : List ℕ) (k : ℕ) (list : List (List ℕ)) : Type 0 where
  pub falls : FallsLexicographically list
  pub members : (ν : List ℕ) → Among ν list
      ↔ (IsPartition ν × (size outer ≡ size ν + k) × IsRimHook outer ν)

-- the state of a lister of rim hooks: `rest` are the partitions still to be listed, `item` the current one, and `base` the partition to which rim
-- hooks are added, or from which they are removed
pub record HooksListed : Type 0 where
  pub rest : List (List ℕ)
  pub item : Option (List ℕ)
  pub base : List ℕ
