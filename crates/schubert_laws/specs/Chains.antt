-- Chains of covers of a permutation that exchange letters across a place k (Sottile, Pieri's formula for flag manifolds and
-- Schubert polynomials), and the elementary polynomials. Places count from 1.
use Rattle.std.specs.Prelude.{ℕ, zero, suc, ◌+◌, max, nat_lt, ◌==◌, cond, List, [], ◌∷◌, ◌++◌, map}
use Rattle.std.specs.Prelude.{length, flat_map}
use Rattle.sym_model.specs.PlaceOrders.{places}
use Rattle.sym_model.specs.Permutation.{swapped, with_fixed, covers_among}
use Rattle.sym_model.specs.Polynomial.{Poly, nothing, one, plus, times}
use Rattle.sym_model.specs.DividedDifference.{variable_in}

-- the number of letters of w before the letter m; the length of w if w has no letter m
abbrev pub letters_before : ℕ → List ℕ → ℕ
letters_before m [] = 0
letters_before m (a ∷ w) = cond (a == m) 0 (suc (letters_before m w))

-- the covers w·t_ab of w with a ≤ k < b, b being the place of the letter m
abbrev pub lifted : ℕ → ℕ → List ℕ → List (List ℕ)
lifted k m w =
    cond (nat_lt (letters_before m w) k) []
    (covers_among w (map (λ a. swapped a (letters_before m w + 1) w) (places k)))

-- the last lists of the chains of d covers w → w·t_ab → .. with a ≤ k < b in each, in which the greater letters of the exchanged
-- pairs decrease strictly, from at most m on
abbrev pub chains_from : ℕ → ℕ → ℕ → List ℕ → List (List ℕ)
chains_from zero zero k w = w ∷ []
chains_from zero (suc d) k w = []
chains_from (suc m) zero k w = chains_from m zero k w
chains_from (suc m) (suc d) k w =
    chains_from m (suc d) k w ++ flat_map (λ v. chains_from m d k v) (lifted k (suc m) w)

-- the last lists of the chains of d covers w → w·t_ab → .. with a ≤ k < b in each, in which the greater letters of the exchanged
-- pairs decrease strictly. So many fixed letters are added at the end of w first that it has 1 letter more than the greater of k
-- and its number of letters: no chain exchanges a later letter.
abbrev pub chains : ℕ → ℕ → List ℕ → List (List ℕ)
chains d k w =
    chains_from (max (length w) k + 1) d k (with_fixed (max (length w) k + 1) w)

-- the elementary polynomial e_d(x_1, .., x_k) in n variables, the later variables set to 0: the sum of all products of d different
-- variables of x_1, .., x_k
abbrev pub elementary_in : ℕ → ℕ → ℕ → Poly
elementary_in zero k n = one n
elementary_in (suc d) zero n = nothing
elementary_in (suc d) (suc k) n =
    plus (elementary_in (suc d) k n) (times (variable_in (suc k) n) (elementary_in d k n))
