-- Numbers that are too large for 128 bits with a sign: coefficients of the answers to commands, as the definitions of
-- the answers give them, that exceed 2^127 - 1; and weights of 2^127 or more. A weight, for example of a pair of
-- permutations, bounds all numbers of a computation.
use Rattle.std.specs.Prelude.{◌≡◌, ℕ, ◌+◌, ◌*◌, ◌^◌, ◌≤◌, nat_le, nat_abs, max, Bool, false, cond}
use Rattle.std.specs.Prelude.{ℤ, pos, negsuc, List, map, length, Option, Some, None}
use Rattle.std.specs.Prelude.{IsTrue}
use Rattle.sym_model.specs.Sum.{total}
use Rattle.sym_model.specs.Polynomial.{Term, Poly, coefficient}
use Rattle.sym_model.specs.Partition.{IsPartition, Holds, size, rows}
use Rattle.sym_model.specs.PlaceOrders.{inversions}
use Rattle.sym_model.specs.Schur.{skew_schur}
use Rattle.sym_model.specs.Alternant.{schur_coefficient}
use Rattle.sym_model.specs.Schubert as polynomials
use Rattle.sym_model.specs.Stanley.{stanley_in}
use Rattle.sym_model.specs.Products.{schur_product}

-- ---- coefficients that exceed 2^127 - 1

-- whether an integer exceeds 2^127 - 1
abbrev pub is_past : ℤ → Bool
is_past (pos n) = nat_le (2 ^ 127) n
is_past (negsuc n) = false

-- some integer with the property `Is` exceeds 2^127 - 1
abbrev pub HasPast : (ℤ → Type 0) → Type 0
HasPast Is = (c : ℤ) × Is c × IsTrue (is_past c)

-- c is the Schur coefficient of the polynomial f in n variables at some partition ν with at most n rows; if f is
-- symmetric, c is the coefficient of s_ν in f
pub record IsSchurCoefficientOf (f : Poly) (n : ℕ) (c : ℤ) : Type 0 where
  pub parts : List ℕ
  pub partition : IsPartition parts
  pub within : rows parts ≤ n
  pub is : c ≡ schur_coefficient n parts f

-- the given number of variables, or the number `enough` if no number is given
abbrev pub variables_or : Option ℕ → ℕ → ℕ
variables_or None enough = enough
variables_or (Some k) enough = k

-- c is a Schur coefficient of the product of the Schur polynomials of the factors in n variables; n is the given
-- number, or else the number of rows of all factors together
abbrev pub IsCoefficientOfProduct : Option ℕ → List (List ℕ) → ℤ → Type 0
IsCoefficientOfProduct variables factors c =
    let n = variables_or variables (size (map rows factors)) in
    IsSchurCoefficientOf (schur_product factors n) n c

-- c is a Schur coefficient of the skew Schur polynomial s_(outer/inner) in n variables; n is the given number, or
-- else the number of rows of outer
abbrev pub IsCoefficientOfSkew : Option ℕ → List ℕ → List ℕ → ℤ → Type 0
IsCoefficientOfSkew variables outer inner c =
    let n = variables_or variables (rows outer) in
    IsSchurCoefficientOf (skew_schur outer inner n) n c

-- c is a coefficient of the coproduct of s_λ, for λ = `shape`: a Schur coefficient of s_(λ/μ) for some partition μ
-- (`part`) inside λ; the number of variables is the number of rows of λ
pub record IsCoproductCoefficient (shape : List ℕ) (c : ℤ) : Type 0 where
  pub part : List ℕ
  pub partition : IsPartition part
  pub inside : Holds shape part
  pub is : IsSchurCoefficientOf (skew_schur shape part (rows shape)) (rows shape) c

-- c is a coefficient of the Schubert polynomial of w
abbrev pub IsCoefficientOfSchubert : List ℕ → ℤ → Type 0
IsCoefficientOfSchubert w c = (exponents : List ℕ) × (c ≡ coefficient (polynomials.schubert w) exponents)

-- c is a coefficient of the expansion of the Stanley polynomial of w, in this number of variables, in Schur
-- polynomials
abbrev pub IsCoefficientOfStanley : ℕ → List ℕ → ℤ → Type 0
IsCoefficientOfStanley variables w c = IsSchurCoefficientOf (stanley_in w variables) variables c

-- ---- weights of 2^127 or more

-- some natural number with the property `Is` is 2^127 or more
abbrev pub HasHeavy : (ℕ → Type 0) → Type 0
HasHeavy Is = (weight : ℕ) × Is weight × (2 ^ 127 ≤ weight)

-- the value of a polynomial at 1 for each variable
abbrev pub value_at_ones : Poly → ℤ
value_at_ones f = total (λ (t : Term). t.1) f

-- of two permutations the one with fewer inversions; if they have equally many, the first one
abbrev pub shorter : List ℕ → List ℕ → List ℕ
shorter u v = cond (nat_le (inversions u) (inversions v)) u v

-- the weight of a pair of permutations u and v, S_w(1, .., 1)·(n + ℓ)^ℓ: w is the one of them with fewer inversions
-- (`shorter`), S_w its Schubert polynomial, ℓ the number of inversions of w, and n the greater of the numbers of
-- letters of u and v
abbrev pub pair_weight : List ℕ → List ℕ → ℕ
pair_weight u v =
    let w = shorter u v in
    nat_abs (value_at_ones (polynomials.schubert w))
    * (max (length u) (length v) + inversions w) ^ inversions w

-- the weight of a pair of permutations u and v for the product of their double Schubert polynomials,
-- S_w(1, .., 1)·(n + ℓ + 2)^ℓ: w is the one of them with fewer inversions (`shorter`), S_w its ordinary Schubert
-- polynomial, ℓ the number of inversions of w, and n the greater of the numbers of letters of u and v
abbrev pub double_weight : List ℕ → List ℕ → ℕ
double_weight u v =
    let w = shorter u v in
    nat_abs (value_at_ones (polynomials.schubert w))
    * (max (length u) (length v) + inversions w + 2) ^ inversions w
