-- Horizontal strips removed from the shapes of a list of terms.
use Rattle.std.specs.Prelude.{ℕ, pos, ◌≤◌, List, length}
use Rattle.sym_model.specs.Partition.{Falls, size}
use Rattle.sym_model.specs.WholeTerms.{WholeTerms}
use Rattle.linear_combinations.specs.Gains.{each_with, replaced}
use Rattle.schur_laws.specs.Kostka.{strips_off}

-- the numbers are weakly decreasing, there are at most 512 of them, and their sum is at most 4096
pub record AreRows (numbers : List ℕ) : Type 0 where
  pub falls : Falls numbers
  pub few : length numbers ≤ 512
  pub small : size numbers ≤ 4096

-- the partitions ρ for which shape/ρ is a horizontal strip of k cells, each with the coefficient 1
abbrev pub strips : ℕ → List ℕ → WholeTerms
strips k shape = each_with (pos 1) (strips_off k shape)

-- the list with each shape replaced by the partitions ρ for which shape/ρ is a horizontal strip of k cells, each with the coefficient of the shape
abbrev pub strip_terms : ℕ → WholeTerms → WholeTerms
strip_terms k terms = replaced (strips k) terms
