-- Pieri's formula for double Schubert polynomials. Places count from 1.
use Rattle.std.specs.Prelude.{ℕ, zero, suc, ◌+◌, ◌-◌, ◌==◌, List, [], ◌∷◌, map, filter, flat_map}
use Rattle.sym_model.specs.PlaceOrders.{places}
use Rattle.sym_model.specs.Polynomial.{Poly, nothing, one, plus, times}
use Rattle.sym_model.specs.Permutation.{letter}
use Rattle.sym_model.specs.Expansion.{beside}
use Rattle.sym_model.specs.DividedDifference.{variable_in}
use Rattle.sym_model.specs.DoubleSchubert.{double_schubert_in}
use Rattle.schubert_laws.specs.Chains.{chains}

-- the elementary polynomial e_d of the polynomials of a list, in n variables: the sum of all products of d of them, at different places of the list
abbrev pub elementary_of : ℕ → ℕ → List Poly → Poly
elementary_of n zero fs = one n
elementary_of n (suc d) [] = nothing
elementary_of n (suc d) (f ∷ fs) =
    plus (elementary_of n (suc d) fs) (times f (elementary_of n d fs))

-- the variables x_1, .., x_k, and the variables y_a for the numbers a of a list, in n variables x and n variables y
abbrev pub first_x : ℕ → ℕ → List Poly
first_x k n = map (λ i. beside (variable_in i n) (one n)) (places k)

abbrev pub these_y : List ℕ → ℕ → List Poly
these_y letters n = map (λ a. beside (one n) (variable_in a n)) letters

-- the letters of w at the places i ≤ k with v(i) = w(i)
abbrev pub unmoved : ℕ → List ℕ → List ℕ → List ℕ
unmoved k w v = map (letter w) (filter (λ i. letter v i == letter w i) (places k))

-- in n variables x and n variables y: the sum of e_(d-j)(y_a, a = w(i) = v(i), i ≤ k)·S_v(x; y) over j ≤ d and the last lists v of the chains of j covers
-- of `chains`, from w on
abbrev pub over_chains : ℕ → ℕ → List ℕ → ℕ → Poly
over_chains d k w n =
    flat_map (λ j. flat_map (λ v.
    times (elementary_of (n + n) (d - j) (these_y (unmoved k w v) n)) (double_schubert_in v n))
    (chains j k w)) (0 ∷ places d)
