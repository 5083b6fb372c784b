-- Factors of a quantum product, each given by a partition that is rotated to it.
use Rattle.std.specs.Prelude.{◌≡◌, ℕ, ◌≤◌, ◌<◌, List}
use Rattle.rotation_laws.specs.Rotation.{IsInside, rotated, wraps}

-- `factor` is the partition `base`, with at most k rows and n - k columns, rotated by `turns`; `power` is the power of q of this rotation
pub record IsBase (k n : ℕ) (factor base : List ℕ) (turns power : ℕ) : Type 0 where
  pub inside : IsInside k n base
  pub small : turns < n
  pub light : power ≤ k
  pub is : factor ≡ rotated k n turns base
  pub counted : power ≡ wraps k n turns base
