-- The product of a monomial symmetric polynomial and e_k (Macdonald, I.2).
use Rattle.std.specs.Prelude.{ℕ, ◌+◌, ◌≤◌, List}
use Rattle.sym_model.specs.Partition.{IsPartition, size, rows}
use Rattle.sym_model.specs.PartitionList.{partitions_of}
use Rattle.sym_model.specs.WholeTerms.{WholeTerms}
use Rattle.monomial_laws.specs.MonomialProduct.{arrangements}
use Rattle.strip_rules.specs.StripProduct.{column}
use Rattle.linear_combinations.specs.Gains.{counted}

-- a partition with at most 4096 - k cells and at most 512 - k rows
pub record HasRoomForColumn (k : ℕ) (parts : List ℕ) : Type 0 where
  pub partition : IsPartition parts
  pub cells : size parts + k ≤ 4096
  pub rows_within : rows parts + k ≤ 512

-- the coefficient of m_ν in m_μ·e_k
abbrev pub column_count : ℕ → List ℕ → List ℕ → ℕ
column_count k μ ν = arrangements μ (column k) ν

-- m_μ·e_k as a list: the partitions with k cells more than μ, each with its coefficient in the product
abbrev pub column_terms : ℕ → List ℕ → WholeTerms
column_terms k μ = counted (column_count k μ) (partitions_of (size μ + k))
