-- Lists of terms in Schur polynomials: whether a list is the expansion of an expression; and, for a function φ of exponents, the sum Σ c·φ(α) over
-- the terms c·x^α of the polynomial of a list, or of the product of the polynomials of two lists.
use Rattle.std.specs.Prelude.{◌≡◌, ℕ, nat_eq, ℤ, List, []}
use Rattle.std.specs.Cmp.Lexicographic.{pointwise}
use Rattle.sym_model.specs.Polynomial.{pair, times}
use Rattle.sym_model.specs.Schur.{schur}
use Rattle.sym_model.specs.Expansion.{schurs, Fraction, Terms, IsExpansionOf}
use Rattle.sym_model.specs.Expression.{Tree, cleared_value, denominator}
use Rattle.sym_model.specs.WholeTerms.{WholeTerms}
use Rattle.sparse_polys.specs.Combination.{HasMoreAt}
use Rattle.monomial_laws.specs.ExpressionTerms.{over}
use Rattle.sparse_polys.specs.Tables.{IsFractionTable}

-- the list is the expansion of the expression in Schur polynomials, in every number of variables
abbrev pub StandsFor : Tree → Terms (List ℕ) → Type 0
StandsFor e terms = (n : ℕ) → IsExpansionOf schurs terms n (cleared_value e n) (denominator e)

-- the list is a table (`IsFractionTable`) with the coefficient c at the label, and 0 at every other label
abbrev pub IsOneTerm : List ℕ → Fraction → Terms (List ℕ) → Type 0
IsOneTerm label c terms = IsFractionTable terms × HasMoreAt (pointwise nat_eq) [] label c terms

-- let f be the polynomial Σ q·a·s_λ in n variables, summed over the terms (λ, a) of the list. The value is Σ c·φ(α) over the terms c·x^α of f.
abbrev pub sum_at : ℕ → Terms (List ℕ) → ℕ → (List ℕ → ℤ) → ℤ
sum_at q terms n φ = pair (over q terms) (λ label. pair (schur label n) φ)

-- Σ c·φ(α) over the terms c·x^α of the product of two Schur polynomials in n variables
abbrev pub product_at : List ℕ → List ℕ → ℕ → (List ℕ → ℤ) → ℤ
product_at left right n φ = pair (times (schur left n) (schur right n)) φ

-- let f be s_left times the polynomial Σ e·a·s_λ, in n variables, summed over the terms (λ, a) of `right`. The value is Σ c·φ(α) over the terms c·x^α
-- of f.
abbrev pub row_at : List ℕ → ℕ → Terms (List ℕ) → ℕ → (List ℕ → ℤ) → ℤ
row_at left e right n φ = pair (over e right) (λ label. product_at left label n φ)

-- let f be the polynomial Σ d·a·s_λ, summed over the terms (λ, a) of `left`, times the polynomial Σ e·b·s_μ, summed over the terms (μ, b) of `right`,
-- in n variables. The value is Σ c·φ(α) over the terms c·x^α of f.
abbrev pub products_at : ℕ → Terms (List ℕ) → ℕ → Terms (List ℕ) → ℕ → (List ℕ → ℤ) → ℤ
products_at d left e right n φ = pair (over d left) (λ label. row_at label e right n φ)

-- for every n and every function φ of exponents, `value n φ` is Σ c·φ(α) over the terms c·x^α of the polynomial Σ a·s_λ in n variables, which is
-- summed over the terms (λ, a) of the list
abbrev pub ComeTo : WholeTerms → (ℕ → (List ℕ → ℤ) → ℤ) → Type 0
ComeTo terms value =
    (n : ℕ) (φ : List ℕ → ℤ) → pair terms (λ label. pair (schur label n) φ) ≡ value n φ
