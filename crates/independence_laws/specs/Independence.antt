-- Linearly independent families of polynomials, and the labels of some of them.
use Rattle.std.specs.Prelude.{◌≡◌, ℕ, ◌≤◌, Bool, List, length, pos}
use Rattle.sym_model.specs.Polynomial.{Poly, Same, nothing}
use Rattle.sym_model.specs.Partition.{IsPartition, rows, without_last_zeros}
use Rattle.sym_model.specs.WholeTerms.{WholeTermsOf, coefficient_by, combined, HaveLabels}

-- The polynomials of the labels with the property P are linearly independent: if a sum of integer multiples of them is 0, then the coefficients of
-- each label add up to 0. `test` decides whether two labels are equal.
pub record AreIndependent {Label : Type 0} (test : Label → Label → Bool) (P : Label → Type 0)
    (polynomial : Label → Poly) : Type 0 where
  pub zero : (terms : WholeTermsOf Label) → HaveLabels P terms → Same (combined polynomial terms) nothing
      → (label : Label) → P label → coefficient_by test terms label ≡ pos 0

-- a partition with at most k rows
abbrev pub HasRows : ℕ → List ℕ → Type 0
HasRows k parts = IsPartition parts × (rows parts ≤ k)

-- a list of at most n exponents without zeros at the end
abbrev pub HasPlaces : ℕ → List ℕ → Type 0
HasPlaces n exponents = (length exponents ≤ n) × (without_last_zeros exponents ≡ exponents)
