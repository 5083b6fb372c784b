-- The sum of c·polynomial(label) over the terms (label, c) of a list, multiplied by the denominators of the coefficients;
-- and expansions of polynomials in the five bases of symmetric functions.
use Rattle.std.specs.Prelude.{ℕ, ◌<◌, ◌*◌, ◌/◌, ℤ, pos, ◌*ℤ◌, List, [], ◌∷◌, ◌++◌, map, flat_map}
use Rattle.sym_model.specs.Polynomial.{Term, Poly, Same, nothing, plus, scale}
use Rattle.sym_model.specs.Bases.{monomial, elementary, complete, power_sum}
use Rattle.sym_model.specs.Schur.{schur}

-- the five bases of symmetric functions, m, e, h, p and s (Macdonald, I.2 and I.3)
pub data Basis : Type 0 where
  monomials : Basis
  elementaries : Basis
  completes : Basis
  power_sums : Basis
  schurs : Basis

-- the polynomial m_λ, e_λ, h_λ, p_λ or s_λ in n variables: that of the partition λ (`parts`) in the given basis
abbrev pub basis_polynomial : Basis → List ℕ → ℕ → Poly
basis_polynomial monomials parts n = monomial parts n
basis_polynomial elementaries parts n = elementary parts n
basis_polynomial completes parts n = complete parts n
basis_polynomial power_sums parts n = power_sum parts n
basis_polynomial schurs parts n = schur parts n

-- a fraction: its numerator and its denominator
abbrev pub Fraction : Type 0
Fraction = ℤ × ℕ

-- a list of terms, each a label with a fraction as its coefficient
abbrev pub Terms : Type 0 → Type 0
Terms Label = List (Label × Fraction)

-- the product of the denominators of the coefficients of a list of terms; 1 for the empty list
abbrev pub denominators : {Label : Type 0} → Terms Label → ℕ
denominators [] = 1
denominators (t ∷ terms) = t.1.1 * denominators terms

-- q times the sum of c·polynomial(label) over the terms (label, c), for a common multiple q of the denominators of the
-- coefficients: a term with the coefficient num/den gives num·(q/den) times the polynomial of its label
abbrev pub cleared : {Label : Type 0} → (Label → Poly) → ℕ → Terms Label → Poly
cleared polynomial q [] = nothing
cleared polynomial q (t ∷ terms) =
    plus (scale (t.1.0 *ℤ pos (q / t.1.1)) (polynomial t.0)) (cleared polynomial q terms)

-- the sum of c·polynomial(label) over the terms (label, c), times the product of the denominators of the coefficients
abbrev pub value_by : {Label : Type 0} → (Label → Poly) → Terms Label → Poly
value_by polynomial terms = cleared polynomial (denominators terms) terms

-- the sum of c·polynomial(label) over the terms (label, c) is f/d. This is stated without fractions: no denominator of
-- a coefficient is 0, and d times `value_by polynomial terms` is f times the product of the denominators.
pub record Represents {Label : Type 0} (polynomial : Label → Poly) (terms : Terms Label) (f : Poly)
    (d : ℕ) : Type 0 where
  pub positive : 0 < denominators terms
  pub equal : Same (scale (pos d) (value_by polynomial terms)) (scale (pos (denominators terms)) f)

-- the sum of c·b_λ, in n variables, over the terms (λ, c), times the product of the denominators of the coefficients;
-- b is the given basis
abbrev pub value : Basis → Terms (List ℕ) → ℕ → Poly
value basis terms n = value_by (λ label. basis_polynomial basis label n) terms

-- the sum of c·b_λ, in n variables, over the terms (λ, c) is the polynomial f divided by d; b is the given basis
abbrev pub IsExpansionOf : Basis → Terms (List ℕ) → ℕ → Poly → ℕ → Type 0
IsExpansionOf basis terms n f d = Represents (λ label. basis_polynomial basis label n) terms f d

-- the product f·g of two polynomials in separate variables: the variables of g come after those of f
abbrev pub beside : Poly → Poly → Poly
beside f g = flat_map (λ (s : Term). map (λ (t : Term). (s.0 ++ t.0, s.1 *ℤ t.1)) g) f

-- the polynomial of a pair of partitions: the Schur polynomial of the first in n variables times
-- that of the second in the k variables after them
abbrev pub pair_polynomial : ℕ → ℕ → List ℕ × List ℕ → Poly
pair_polynomial n k pair = beside (schur pair.0 n) (schur pair.1 k)
