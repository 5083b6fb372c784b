-- The partitions of a number in decreasing lexicographic order: the first one, and those that follow a given one.
use Rattle.std.specs.Prelude.{◌≡◌, ℕ, zero, suc, ◌+◌, ◌-◌, ◌≤◌, min, List, [], ◌∷◌, ◌++◌, map}
use Rattle.std.specs.Prelude.{length, take}
use Rattle.sym_model.specs.Partition.{ArePositive, size}
use Rattle.sym_model.specs.PartitionList.{partitions_within}

-- among the partitions of a size with no part above `most` and at most `rows` rows, the first in decreasing lexicographic order, if there is one:
-- each part in turn is as great as possible
unfoldable pub greatest_within : ℕ → ℕ → ℕ → List ℕ
greatest_within zero most rows = []
greatest_within (suc left) most zero = []
greatest_within (suc left) most (suc rows) =
    let a = min most (suc left) in a ∷ greatest_within (suc left - a) a rows

-- the partitions of the same size that follow a given one in decreasing lexicographic order: first those with the same first part, then those with a
-- smaller one
unfoldable pub partitions_after : List ℕ → List (List ℕ)
partitions_after [] = []
partitions_after (a ∷ parts) =
    map (λ rest. a ∷ rest) (partitions_after parts)
    ++ partitions_within (a + size parts) (a - 1) (a + size parts)

-- each number is 1
abbrev pub AreOnes : List ℕ → Type 0
AreOnes [] = Unit {0}
AreOnes (a ∷ numbers) = (a ≡ 1) × AreOnes numbers

-- the first `rows` numbers of the buffer are positive, and the length of the buffer is their sum, at most 512
pub record HoldsParts (buffer : List ℕ) (rows : ℕ) : Type 0 where
  pub rows_in : rows ≤ length buffer
  pub few : length buffer ≤ 512
  pub positive : ArePositive (take rows buffer)
  pub sum : size (take rows buffer) ≡ length buffer
