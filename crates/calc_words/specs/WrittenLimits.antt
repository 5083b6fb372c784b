-- The limits that hold for the values of the parts of a command whose words have no error.
use Rattle.std.specs.Prelude.{◌≡◌, ◌≤◌, ℕ, true, List, length, Option, Some, None}
use Rattle.sym_model.specs.Partition.{IsPartition, size, rows}
use Rattle.sym_model.specs.GoodTableau.{is_among, lattice_readings}
use Rattle.sym_model.specs.Permutation.{IsKept}
use Rattle.sym_model.specs.Sum.{Among}
use Rattle.sym_model.specs.Form.{EachOf}
use Rattle.sym_model.specs.CommandOffence.{most_parts, most_cells, most_factors, most_permuted}
use Rattle.sym_model.specs.CommandOffence.{most_letters, greatest_letter, most_rows}

-- a partition of at most 64 parts and at most 512 cells
pub record IsWritten (parts : List ℕ) : Type 0 where
  pub partition : IsPartition parts
  pub few : rows parts ≤ most_parts
  pub small : size parts ≤ most_cells

-- a permutation of at most `most` letters, without fixed letters at its end
pub record IsPermutationWithin (most : ℕ) (w : List ℕ) : Type 0 where
  pub kept : IsKept w
  pub few : length w ≤ most

-- a permutation of at most 16 letters, without fixed letters at its end
abbrev pub IsWrittenPermutation : List ℕ → Type 0
IsWrittenPermutation w = IsPermutationWithin most_permuted w

-- a word of at most 256 letters from 1 to 65,535
pub record IsWrittenWord (word : List ℕ) : Type 0 where
  pub letters : (a : ℕ) → Among a word → (1 ≤ a) × (a ≤ greatest_letter)
  pub few : length word ≤ most_letters

-- a number of rows or columns, or a level, from 1 to 64
pub record IsRowNumber (n : ℕ) : Type 0 where
  pub positive : 1 ≤ n
  pub small : n ≤ most_rows

-- if there is a number of rows, it is from 1 to 64
abbrev pub IsRowLimit : Option ℕ → Type 0
IsRowLimit None = Unit {0}
IsRowLimit (Some n) = IsRowNumber n

-- the column reading after which a list of tableaux continues, if one is given, is that of a lattice tableau of outer/inner
abbrev pub IsInList : List ℕ → List ℕ → Option (List ℕ) → Type 0
IsInList outer inner None = Unit {0}
IsInList outer inner (Some w) = is_among w (lattice_readings outer inner) ≡ true

-- two to eight partitions of at most 64 parts and at most 512 cells each
pub record AreWrittenFactors (factors : List (List ℕ)) : Type 0 where
  pub some : 2 ≤ length factors
  pub few : length factors ≤ most_factors
  pub written : EachOf IsWritten factors
