-- A `Family` is one of the families e_k, h_k and p_k; its basis is e, h or p. Here: the power sums as lists in this basis (Macdonald, I.2).
use Rattle.std.specs.Prelude.{◌≡◌, ℕ, ◌+◌, ◌<◌, ℤ, List, length}
use Rattle.sym_model.specs.Polynomial.{pair, times}
use Rattle.sym_model.specs.Bases.{power_sum_of, product_over}
use Rattle.sym_model.specs.WholeTerms.{WholeTerms}
use Rattle.basis_change_laws.specs.AugmentedMonomial.{augmented}
use Rattle.family_lists.specs.FactorLists.{list_at}
use Rattle.linear_combinations.specs.Gains.{over}
use Rattle.sparse_polys.specs.declared.family.Family.{Family}
use Rattle.sparse_polys.specs.Families.{polynomial_of}
use Rattle.basis_change.specs.AugmentedProducts.{MixedLabel}

-- for λ = `label`, let f be e_λ, h_λ or p_λ in n variables, according to the family e, h or p; e_λ is the product of the e_k over the parts k of λ,
-- and so on. The value is Σ c·φ(α) over the terms c·x^α of f.
abbrev pub target_value : Family → ℕ → (List ℕ → ℤ) → List ℕ → ℤ
target_value family n φ label = pair (product_over (polynomial_of family) label n) φ

-- for a label of two partitions λ and μ, let f be the polynomial of λ in the basis of the family times the augmented monomial of μ, in n variables.
-- The value is Σ c·φ(α) over the terms c·x^α of f.
abbrev pub product_value : Family → ℕ → (List ℕ → ℤ) → MixedLabel → ℤ
product_value family n φ l =
    pair (times (product_over (polynomial_of family) l.0 n) (augmented l.1 n)) φ

-- in every number of variables, the list expands the power sum p_k; a label λ of the list denotes e_λ, h_λ or p_λ, according to the family e, h or p
abbrev pub IsPowerSum : Family → ℕ → WholeTerms → Type 0
IsPowerSum family k terms =
    (n : ℕ) (φ : List ℕ → ℤ)
    → over (target_value family n φ) terms ≡ pair (power_sum_of k n) φ

-- the lists are those of p_1, p_2 and so on in the basis of the family
abbrev pub ArePowerSums : Family → List WholeTerms → Type 0
ArePowerSums family lists =
    (i : ℕ) → i < length lists → IsPowerSum family (i + 1) (list_at lists i)
