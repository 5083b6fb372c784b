-- The lists of numbers that the type `Partition` allows, and the first place at which a list of numbers is not weakly decreasing.
use Rattle.std.specs.Prelude.{◌≡◌, ℕ, ◌-◌, ◌<◌, ◌≤◌, List, length, take, slice_index}
use Rattle.sym_model.specs.Partition.{IsPartition, Falls, size, rows}

-- a partition with at most 512 rows and at most 4096 cells
pub record IsWithinLimits (parts : List ℕ) : Type 0 where
  pub partition : IsPartition parts
  pub few : rows parts ≤ 512
  pub small : size parts ≤ 4096

-- `parts` is a partition with at most 512 rows and at most 4096 cells, and `cells` is the number of its cells
pub record HasCells (parts : List ℕ) (cells : ℕ) : Type 0 where
  pub limits : IsWithinLimits parts
  pub cells_are : cells ≡ size parts

-- the place `at`, counted from 0, is the first with a number greater than the one before it
pub record RisesFirstAt (numbers : List ℕ) (at : ℕ) : Type 0 where
  pub later : 0 < at
  pub within : at < length numbers
  pub rises : slice_index numbers (at - 1) < slice_index numbers at
  pub before : Falls (take at numbers)
