-- Lists in m, that is, lists of terms c·m_λ, without negative coefficients, whose polynomials are bounded by sums of powers of x_1 + .. + x_n.
use Rattle.std.specs.Prelude.{ℕ, ℤ, pos, ◌≤◌, ◌≤ℤ◌, List}
use Rattle.sym_model.specs.Sum.{Among}
use Rattle.sym_model.specs.WholeTerms.{WholeTerms}
use Rattle.monomial_laws.specs.ExpressionTerms.{in_monomials}
use Rattle.monomial_laws.specs.Majorant.{IsBounded}

-- K is at least 1, no coefficient of the list W in m is negative, and in every number n of variables the polynomial of W is bounded by K at the
-- degree b (`IsBounded`): each of its coefficients is at most that in some sum of at most K powers of x_1 + .. + x_n with exponents up to b
pub record IsBoundedSum (K b : ℕ) (W : WholeTerms) : Type 0 where
  pub some : 1 ≤ K
  pub natural : (t : List ℕ × ℤ) → Among t W → pos 0 ≤ℤ t.1
  pub bounded : (n : ℕ) → IsBounded K b n (in_monomials W n)
