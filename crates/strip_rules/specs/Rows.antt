-- The product of a monomial symmetric polynomial and h_k: the partitions that occur and their coefficients (Macdonald, I.2).
use Rattle.std.specs.Prelude.{◌≡◌, ℕ, ◌+◌, List, ◌∷◌, ◌++◌, map}
use Rattle.sym_model.specs.Partition.{IsPartition, Falls, Holds, size}
use Rattle.sym_model.specs.PartitionList.{partitions_of}
use Rattle.sym_model.specs.WholeTerms.{WholeTerms}
use Rattle.strip_rules.specs.StripProduct.{placings}
use Rattle.linear_combinations.specs.Gains.{counted}
use Rattle.product_laws.specs.StripLists.{ListsEach}

-- ν is a partition that contains μ and has k more cells
abbrev pub AddsCells : ℕ → List ℕ → List ℕ → Type 0
AddsCells k μ ν = IsPartition ν × (size ν ≡ size μ + k) × Holds ν μ

-- ν is a partition that contains μ and has k more cells, and no row of it is longer than `most`
abbrev pub AddsBelow : ℕ → ℕ → List ℕ → List ℕ → Type 0
AddsBelow most k μ ν = AddsCells k μ ν × Falls (most ∷ ν)

-- the list `new` is `old`, followed by the lists `above ++ ν` for the lists ν with the property P, one for each
pub record HasAdded (P : List ℕ → Type 0) (above : List ℕ) (old new : List (List ℕ)) : Type 0 where
  pub added : List (List ℕ)
  pub listed : new ≡ old ++ map (λ ν. above ++ ν) added
  pub each : ListsEach P added

-- the list of the given shapes, each with the number of ways to give each of its rows a part of μ or 0, at most the length of the row, such that each
-- part of μ is used once (`placings`)
abbrev pub with_placings : List ℕ → List (List ℕ) → WholeTerms
with_placings μ shapes = counted (placings μ) shapes

-- m_μ·h_k as a list: all partitions ν with k more cells than μ, each with the number `placings μ ν`
abbrev pub row_terms : ℕ → List ℕ → WholeTerms
row_terms k μ = with_placings μ (partitions_of (size μ + k))
