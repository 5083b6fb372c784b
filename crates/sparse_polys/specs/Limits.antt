-- The limits on the exponents of a `Monomial`.
use Rattle.std.specs.Prelude.{◌≡◌, ℕ, ◌≤◌, List, length}
use Rattle.sym_model.specs.Partition.{size, without_last_zeros}

-- a list of exponents that does not end with 0, has at most 255 entries, and has a sum of at most 32385
pub record IsWithinLimits (exponents : List ℕ) : Type 0 where
  pub trimmed : without_last_zeros exponents ≡ exponents
  pub few : length exponents ≤ 255
  pub small : size exponents ≤ 32385

-- the exponents are within the limits of a monomial, and `degree` is their sum
pub record HasDegree (exponents : List ℕ) (degree : ℕ) : Type 0 where
  pub limits : IsWithinLimits exponents
  pub degree_is : degree ≡ size exponents
