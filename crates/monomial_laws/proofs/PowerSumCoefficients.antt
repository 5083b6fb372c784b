-- The coefficient of x^γ in the sum of the terms c·m_λ of a list.
use Rattle.std.proofs.Common.{◌≡◌, ℕ, List, length, rules}
use Rattle.std.proofs.lemmas.Bool.{eq-eqb, cond-true}
use Rattle.sym_model.specs.Polynomial.{coefficient}
use Rattle.sym_model.specs.Partition.{sorted_parts}
use Rattle.sym_model.specs.Bases.{monomial}
use Rattle.sym_model.specs.WholeTerms.{WholeTerms, combined}
use Rattle.sym_model.proofs.Exponents.{same_sym}
use Rattle.sym_model.proofs.Polynomials.{at_only, coefficient_pair, pair_ext}
use Rattle.sym_model.proofs.Monomials.{coefficient-monomial}
use Rattle.sym_model.proofs.WholeTerms.{coefficient-combined}

-- the coefficient of x^γ in the sum of the terms c·m_λ of a list is the coefficient that the list has at the partition λ to which γ sorts
pub coefficient-monomial_terms : (terms : WholeTerms) (n : ℕ) (γ : List ℕ) → length γ ≡ n
    → coefficient (combined (λ label. monomial label n) terms) γ ≡ coefficient terms (sorted_parts γ)
coefficient-monomial_terms terms n γ long =
    search (rules, coefficient-combined, pair_ext, at_only, coefficient-monomial, cond-true, eq-eqb, same_sym, coefficient_pair)
