-- The pairs of partitions that are values of the type `Skew`.
use Rattle.std.specs.Prelude.{◌≡◌, ℕ, true, List}
use Rattle.sym_model.specs.Schur.{contains}
use Rattle.partitions.specs.Limits.{IsWithinLimits}

-- outer and inner are partitions within the limits (at most 512 rows and 4096 cells), and inner lies inside outer
pub record IsSkew (outer inner : List ℕ) : Type 0 where
  pub outside : IsWithinLimits outer
  pub inside : IsWithinLimits inner
  pub holds : contains outer inner ≡ true
