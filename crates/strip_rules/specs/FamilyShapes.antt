-- Tables of beta sets as sums of Schur polynomials of their partitions.
use Rattle.std.specs.Prelude.{◌≡◌, ℕ, ◌^◌, ◌≤◌, ℤ, List}
use Rattle.sym_model.specs.Bases.{complete_of, elementary_of}
use Rattle.sym_model.specs.Polynomial.{Poly, pair}
use Rattle.sym_model.specs.Schur.{schur}
use Rattle.sym_model.specs.WholeTerms.{WholeTermsOf}
use Rattle.linear_combinations.specs.Gains.{over, mass, HaveLabels}
use Rattle.beta_sets.specs.BetaSets.{shape, IsInRows}
use Rattle.strip_rules.specs.declared.bead_strips.Strip.{Strip}
use Rattle.strip_rules.specs.declared.bead_strips.Strip.TheVariants.{Horizontal, Vertical}

-- h_k for horizontal strips, e_k for vertical strips: the polynomial with which a Schur polynomial is multiplied by adding strips of k cells
abbrev pub polynomial_by : Strip → ℕ → ℕ → Poly
polynomial_by Horizontal = complete_of
polynomial_by Vertical = elementary_of

-- The label of each term is a beta set of 20 numbers, whose partition ν has at most d cells. In every number n of variables, the sum of c·s_ν over
-- the terms is f n, with c the coefficient of the term. The absolute values of the coefficients add up to at most 20^d.
pub record AreShapesOf (f : ℕ → Poly) (d : ℕ) (terms : WholeTermsOf ℕ) : Type 0 where
  pub value : (n : ℕ) (φ : List ℕ → ℤ)
      → over (λ s. pair (schur (shape s) n) φ) terms ≡ pair (f n) φ
  pub within : HaveLabels (IsInRows 20 d) terms
  pub few : mass terms ≤ 20 ^ d
