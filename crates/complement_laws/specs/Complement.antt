-- Complements of partitions in rectangles.
use Rattle.std.specs.Prelude.{ℕ, ◌-◌, List, map, reverse}
use Rattle.sym_model.specs.Partition.{without_last_zeros}
use Rattle.sym_model.specs.Polynomial.{resize}

-- the complement of λ in the rectangle with k rows and n columns, turned by 180 degrees: n - λ_k, .., n - λ_1
abbrev pub complement : ℕ → ℕ → List ℕ → List ℕ
complement k n parts = without_last_zeros (reverse (map (λ x. n - x) (resize k parts)))
