-- Alternants, ρ and the Schur coefficients of a polynomial (Macdonald, I.3).
use Rattle.std.specs.Prelude.{ℕ, zero, suc, ℤ, List, [], ◌∷◌, map, length, flat_map}
use Rattle.sym_model.specs.Polynomial.{Poly, Term, coefficient, join, scale, times}
use Rattle.sym_model.specs.Partition.{part}
use Rattle.sym_model.specs.PlaceOrders.{orders, places, sign}

-- the list w(β) = (β_(w_1), β_(w_2), ..), for a list w of places of β
abbrev pub rearranged : List ℕ → List ℕ → List ℕ
rearranged w β = map (part β) w

-- a_β: the sum of sign(w)·x^w(β) over all orders w of the places of β
abbrev pub alternant : List ℕ → Poly
alternant β = map (λ w. (rearranged w β, sign w)) (orders (places (length β)))

-- ρ in n variables: (n - 1, .., 1, 0)
abbrev pub staircase : ℕ → List ℕ
staircase zero = []
staircase (suc n) = n ∷ staircase n

-- c_n(ν; f), the Schur coefficient of a polynomial f in n variables at ν with at most n rows:
-- the coefficient of x^(ν + ρ) in a_ρ·f
abbrev pub schur_coefficient : ℕ → List ℕ → Poly → ℤ
schur_coefficient n ν f = coefficient (times (alternant (staircase n)) f) (join ν (staircase n))

-- the sum of c·a_(β + α) over the terms c·x^α of the polynomial f
abbrev pub alternants_over : List ℕ → Poly → Poly
alternants_over β f = flat_map (λ (t : Term). scale t.1 (alternant (join β t.0))) f
