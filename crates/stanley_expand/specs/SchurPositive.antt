-- Sums of Schur polynomials, and the test function that gives Schur coefficients.
use Rattle.std.specs.Prelude.{ℕ, ℤ, ◌≤◌, List, flat_map}
use Rattle.sym_model.specs.Sum.{Among}
use Rattle.sym_model.specs.Polynomial.{Poly, Same, pair, join}
use Rattle.sym_model.specs.Partition.{IsPartition, rows}
use Rattle.sym_model.specs.Schur.{schur}
use Rattle.sym_model.specs.Alternant.{alternant, staircase}
use Rattle.sym_model.proofs.Polynomials.{at_only}

-- in m variables, f is the sum of the Schur polynomials of the partitions of some list, each with at most m rows
pub record IsSchurPositive (m : ℕ) (f : Poly) : Type 0 where
  pub shapes : List (List ℕ)
  pub partitions : (κ : List ℕ) → Among κ shapes → IsPartition κ × (rows κ ≤ m)
  pub sum : Same f (flat_map (λ κ. schur κ m) shapes)

-- for given m and κ, a function φ of exponents: for each polynomial in m variables, the sum of c·φ(α) over its terms
-- c·x^α is the Schur coefficient of the polynomial at κ
abbrev pub schur_test : ℕ → List ℕ → List ℕ → ℤ
schur_test m κ α = pair (alternant (staircase m)) (λ β. at_only (join κ (staircase m)) (join β α))
