-- The monomial, elementary, complete and power sum polynomials of a partition in n variables
-- (Macdonald, I.2).
use Rattle.std.specs.Prelude.{ℕ, zero, suc, ◌-◌, ◌==◌, nat_le, Bool, true, false, ◌&&◌, ◌||◌, cond}
use Rattle.std.specs.Prelude.{pos, List, [], ◌∷◌, map, filter, flat_map}
use Rattle.sym_model.specs.Polynomial.{Poly, same, one, times}
use Rattle.sym_model.specs.Partition.{size, sorted_parts}

-- the numbers d, d - 1, .., 0
abbrev pub down_from : ℕ → List ℕ
down_from zero = 0 ∷ []
down_from (suc d) = suc d ∷ down_from d

-- all exponent lists of n places with the sum d, each once
abbrev pub exponent_lists : ℕ → ℕ → List (List ℕ)
exponent_lists zero d = cond (d == 0) ([] ∷ []) []
exponent_lists (suc n) d = flat_map (λ a. map (λ α. a ∷ α) (exponent_lists n (d - a))) (down_from d)

-- the sum of the monomials of degree d in n variables whose exponent lists pass the test
abbrev pub monomials : (List ℕ → Bool) → ℕ → ℕ → Poly
monomials test n d = map (λ α. (α, pos 1)) (filter test (exponent_lists n d))

-- whether each number of the list is at most 1
abbrev pub at_most_one : List ℕ → Bool
at_most_one [] = true
at_most_one (a ∷ α) = nat_le a 1 && at_most_one α

-- whether k is an entry of the list
abbrev pub has : ℕ → List ℕ → Bool
has k [] = false
has k (a ∷ α) = (a == k) || has k α

-- m_λ in n variables: the sum of the distinct monomials whose exponents, sorted in decreasing order and without
-- zeros, are λ
abbrev pub monomial : List ℕ → ℕ → Poly
monomial parts n = monomials (λ α. same (sorted_parts α) parts) n (size parts)

-- e_k in n variables: the sum of the squarefree monomials of degree k
abbrev pub elementary_of : ℕ → ℕ → Poly
elementary_of k n = monomials at_most_one n k

-- h_k in n variables: the sum of all monomials of degree k
abbrev pub complete_of : ℕ → ℕ → Poly
complete_of k n = monomials (λ α. true) n k

-- p_k in n variables, for k ≥ 1: the sum of the x_i^k, which are the monomials of degree k in which some exponent is
-- k
abbrev pub power_sum_of : ℕ → ℕ → Poly
power_sum_of k n = monomials (has k) n k

-- the product of the polynomials `f k n` over the parts k of a list; 1 in n variables if the list is empty
abbrev pub product_over : (ℕ → ℕ → Poly) → List ℕ → ℕ → Poly
product_over f [] n = one n
product_over f (k ∷ parts) n = times (f k n) (product_over f parts n)

-- e_λ in n variables: the product of the e_k over the parts k of λ
abbrev pub elementary : List ℕ → ℕ → Poly
elementary parts n = product_over elementary_of parts n

-- h_λ in n variables: the product of the h_k over the parts k of λ
abbrev pub complete : List ℕ → ℕ → Poly
complete parts n = product_over complete_of parts n

-- p_λ in n variables: the product of the p_k over the parts k of λ
abbrev pub power_sum : List ℕ → ℕ → Poly
power_sum parts n = product_over power_sum_of parts n
