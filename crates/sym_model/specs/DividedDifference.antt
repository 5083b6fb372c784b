-- Divided differences (Macdonald, Notes on Schubert polynomials, II): ∂_i f is (f - s_i f)/(x_i - x_(i+1)), where s_i
-- exchanges x_i and x_(i+1). Here ∂_i is defined by its values on monomials, extended linearly;
-- `divided_difference_law` says that this is the quotient.
use Rattle.std.specs.Prelude.{ℕ, zero, suc, ◌+◌, ◌-◌, ℤ, pos, neg_ℤ, List, [], ◌∷◌, ◌++◌, map}
use Rattle.std.specs.Prelude.{replicate, flat_map}
use Rattle.std.specs.List.{range_with_len}
use Rattle.sym_model.specs.Polynomial.{Term, Poly, join, scale, restrict}
use Rattle.sym_model.specs.Permutation.{exchanged}

-- the monomial x^α
abbrev pub x_to : List ℕ → Poly
x_to α = (α, pos 1) ∷ []

-- the monomial x^α in n variables, with the later variables set to 0: 0 if α has a positive exponent after place n
abbrev pub x_to_in : List ℕ → ℕ → Poly
x_to_in α n = restrict n (x_to α)

-- the variable x_i (`variable i`), and the variable x_i as a polynomial in n variables (`variable_in i n`), which is 0 if
-- i > n; i counts from 1
abbrev pub variable : ℕ → Poly
variable i = x_to (replicate (i - 1) 0 ++ (1 ∷ []))

abbrev pub variable_in : ℕ → ℕ → Poly
variable_in i n = restrict n (variable i)

-- the exponents of the product of x_r and x^α, with α the given exponents; r counts from 1
abbrev pub raised : ℕ → List ℕ → List ℕ
raised r exponents = join exponents (replicate (r - 1) 0 ++ (1 ∷ []))

-- s_i f: the polynomial f with the variables x_i and x_(i+1) exchanged
abbrev pub with_exchanged : ℕ → Poly → Poly
with_exchanged i f = map (λ (t : Term). (exchanged i t.0, t.1)) f

-- `sign` times the sum of x^c·y^(a+b-1-c) for c from b to a - 1, times the monomial with the exponents `rest` in the
-- variables after x and y; 0 if a ≤ b
abbrev pub powers_between : ℤ → ℕ → ℕ → List ℕ → Poly
powers_between sign a b rest =
    map (λ c. (c ∷ (a + b - 1 - c) ∷ rest, sign)) (range_with_len b (a - b))

-- ∂_(k+1) of the monomial with these exponents. Let x_(k+1) and x_(k+2) have the exponents a and b in it. If a > b,
-- these two powers become the sum of x_(k+1)^c·x_(k+2)^(a+b-1-c) over b ≤ c < a; if a < b, minus the sum of the same
-- products over a ≤ c < b; if a = b, or if there are fewer than k + 2 exponents, the result is 0.
abbrev pub difference_after : ℕ → List ℕ → Poly
difference_after zero [] = []
difference_after zero (a ∷ []) = []
difference_after zero (a ∷ b ∷ rest) =
    powers_between (pos 1) a b rest ++ powers_between (neg_ℤ (pos 1)) b a rest
difference_after (suc k) [] = []
difference_after (suc k) (a ∷ rest) = map (λ (t : Term). (a ∷ t.0, t.1)) (difference_after k rest)

-- ∂_(k+1) f: the sum of c·∂_(k+1) x^α over the terms c·x^α of the polynomial f
abbrev pub differences_after : ℕ → Poly → Poly
differences_after k f = flat_map (λ (t : Term). scale t.1 (difference_after k t.0)) f

-- ∂_i f, the divided difference of the polynomial f in the variables x_i and x_(i+1); i counts from 1, and ∂_0 f is 0
abbrev pub divided_difference : ℕ → Poly → Poly
divided_difference zero f = []
divided_difference (suc k) f = differences_after k f
