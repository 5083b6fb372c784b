-- Products of polynomials that are given as lists of terms.
use Rattle.std.specs.Prelude.{◌≡◌, ℕ, ◌*◌, nat_eq, List, map}
use Rattle.std.specs.Cmp.Lexicographic.{pointwise}
use Rattle.sym_model.specs.Sum.{Among}
use Rattle.sym_model.specs.Polynomial.{Poly, Term, join, times}
use Rattle.sym_model.specs.DividedDifference.{x_to_in}
use Rattle.sym_model.specs.Expansion.{Fraction, Terms, Represents, denominators, value_by}
use Rattle.sparse_polys.specs.Combination.{coefficient}
use Rattle.sparse_polys.specs.Limits.{IsWithinLimits}
use Rattle.sparse_polys.specs.Raised.{raised}

-- the polynomial in n variables of a list of terms c·x^e, times the product of the denominators of the coefficients c
abbrev pub value_in : Terms (List ℕ) → ℕ → Poly
value_in terms n = value_by (λ e. x_to_in e n) terms

-- the last list is the product of the first two, in every number of variables
abbrev pub IsProductOf : Terms (List ℕ) → Terms (List ℕ) → Terms (List ℕ) → Type 0
IsProductOf left right product =
    (n : ℕ) → Represents (λ e. x_to_in e n) product (times (value_in left n) (value_in right n))
    (denominators left * denominators right)

-- for each monomial of the first list and each monomial of the second, the product is within the limits of a monomial (`IsWithinLimits`)
abbrev pub FitTogether : Terms (List ℕ) → Terms (List ℕ) → Type 0
FitTogether first second =
    (s t : List ℕ × Fraction) → Among s first → Among t second → IsWithinLimits (join s.0 t.0)

-- for each monomial of the list, its product with x_r is within the limits of a monomial (`IsWithinLimits`)
abbrev pub HaveRoomForVariable : ℕ → Terms (List ℕ) → Type 0
HaveRoomForVariable r terms = (t : List ℕ × Fraction) → Among t terms → IsWithinLimits (raised r t.0)

-- the coefficient of the monomial x^e in the list; 0 if it does not occur
abbrev pub coefficient_at : Terms (List ℕ) → List ℕ → Fraction
coefficient_at terms e = coefficient (pointwise nat_eq) terms e

-- the product of x_r and a polynomial
abbrev pub times_variable : ℕ → Poly → Poly
times_variable r f = map (λ (t : Term). (raised r t.0, t.1)) f

-- each monomial of the list `after` is x_r times a monomial of the list `before`
abbrev pub AreRaised : ℕ → Terms (List ℕ) → Terms (List ℕ) → Type 0
AreRaised r before after =
    (t : List ℕ × Fraction) → Among t after
    → (u : List ℕ × Fraction) × Among u before × (t.0 ≡ raised r u.0)
