-- The numbers that occur when the sum of c·p_λ[W] over the terms c·p_λ of a list is computed. Here W is a list in the monomial basis m, that is, a
-- list of terms c·m_μ, and its monomials replace the variables of p_λ.
use Rattle.std.specs.Prelude.{ℕ, ◌*◌, ◌^◌, ◌≤◌, ◌⊎◌, ℤ, List, length}
use Rattle.sym_model.specs.Sum.{Among}
use Rattle.sym_model.specs.Partition.{IsPartition, size}
use Rattle.sym_model.specs.Polynomial.{Poly, coefficient}
use Rattle.sym_model.specs.Expansion.{monomials}
use Rattle.sym_model.specs.Weight.{growth}
use Rattle.sym_model.specs.WholeTerms.{WholeTerms}
use Rattle.monomial_laws.specs.ExpressionTerms.{in_monomials}
use Rattle.plethysm_laws.specs.PowerSumPlethysm.{power_sum_plethysm, met}

-- p_λ[W], the product of the p_k[W] over the parts k of λ, for a list W in m, in n variables
abbrev pub power_sum_in : WholeTerms → List ℕ → ℕ → Poly
power_sum_in W parts n = power_sum_plethysm parts (in_monomials W n) n

-- the coefficient of the partition ν in p_λ[W], for λ with the parts `parts` and a list W in m
abbrev pub power_sum_at : WholeTerms → List ℕ → List ℕ → ℤ
power_sum_at W ν parts = coefficient (power_sum_in W parts (length ν)) ν

-- K^|λ|·d^d is 2^127 or more, for λ with the parts `parts` and d = |λ|·b (0^0 is 1)
abbrev pub IsProductPast : ℕ → ℕ → List ℕ → Type 0
IsProductPast K b parts = 2 ^ 127 ≤ K ^ size parts * growth monomials (size parts * b)

-- K^|λ|·d^d is 2^127 or more for some label λ of `terms`, with d = |λ|·b; or, for some partition ν, the sum over the terms (λ, c) of |c| times the
-- absolute value of the coefficient of x^ν in p_λ[W] is 2^127 or more
abbrev pub IsPastPath : ℕ → ℕ → WholeTerms → WholeTerms → Type 0
IsPastPath K b W terms =
    ((t : List ℕ × ℤ) × Among t terms × IsProductPast K b t.0)
    ⊎ ((ν : List ℕ) × IsPartition ν × (2 ^ 127 ≤ met terms (power_sum_at W ν)))
