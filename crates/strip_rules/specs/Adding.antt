-- The product of h_k, e_k or p_k and one term of an expansion in s: a list of partitions with signs.
use Rattle.std.specs.Prelude.{◌≡◌, ℕ, ◌+◌, ◌^◌, ◌≤◌, ℤ, ◌*ℤ◌, nat_eq, List}
use Rattle.std.specs.Cmp.Lexicographic.{pointwise}
use Rattle.sym_model.specs.Partition.{size, rows}
use Rattle.sym_model.specs.Polynomial.{Poly, pair, times}
use Rattle.sym_model.specs.Schur.{schur}
use Rattle.sym_model.specs.Expansion.{Fraction, Terms, IsExpansionOf, denominators, schurs, value}
use Rattle.sym_model.specs.WholeTerms.{WholeTerms}
use Rattle.fraction_laws.specs.Fractions.{scaled as numerator_over}
use Rattle.linear_combinations.specs.Gains.{over, mass, mass_at, HaveLabels}

-- as expansions in s, the list `product` is f times the list `list`, in every number of variables
abbrev pub IsTimes : (ℕ → Poly) → Terms (List ℕ) → Terms (List ℕ) → Type 0
IsTimes f list product =
    (n : ℕ) → IsExpansionOf schurs product n (times (f n) (value schurs list n)) (denominators list)

-- the fraction d is c times the sign, with the denominator of c
pub record IsSigned (c : Fraction) (sign : ℤ) (d : Fraction) : Type 0 where
  pub denominator : d.1 ≡ c.1
  pub value : (q : ℕ) → numerator_over q d ≡ numerator_over q c *ℤ sign

-- the terms expand f·s_label in Schur polynomials, in every number of variables. The absolute values of their coefficients add up to at most 1 at
-- each partition, and to at most (|label| + k)^k in all; each of their partitions has at most k cells more and at most k rows more than `label`.
pub record IsProduct (f : ℕ → Poly) (k : ℕ) (label : List ℕ) (terms : WholeTerms) : Type 0 where
  pub value : (n : ℕ) (φ : List ℕ → ℤ)
      → over (λ ν. pair (schur ν n) φ) terms ≡ pair (times (f n) (schur label n)) φ
  pub once : (ν : List ℕ) → mass_at (pointwise nat_eq) ν terms ≤ 1
  pub few : mass terms ≤ (size label + k) ^ k
  pub small : HaveLabels (λ ν. (size ν ≤ size label + k) × (rows ν ≤ rows label + k)) terms
