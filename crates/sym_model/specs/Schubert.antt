-- Schubert polynomials (Lascoux and Schützenberger; Macdonald, Notes on Schubert polynomials, IV).
use Rattle.std.specs.Prelude.{ℕ, zero, suc, List, length, flat_map}
use Rattle.std.specs.Option.{option_map_or}
use Rattle.sym_model.specs.Polynomial.{Poly, restrict}
use Rattle.sym_model.specs.Alternant.{staircase}
use Rattle.sym_model.specs.BetaList.{rising_pairs}
use Rattle.sym_model.specs.Permutation.{first_ascent, exchanged}
use Rattle.sym_model.specs.DividedDifference.{x_to, divided_difference}

-- divided differences of g along first ascents, at most `fuel` of them. If w has no ascent or `fuel` is 0, the result
-- is g; otherwise it is ∂_i of `descended g (fuel - 1) (w·s_i)`, with i the first ascent of w.
abbrev pub descended : Poly → ℕ → List ℕ → Poly
descended g zero w = g
descended g (suc fuel) w =
    option_map_or (λ i. divided_difference i (descended g fuel (exchanged i w))) (first_ascent w) g

-- ∂_i of `schubert_over g (w·s_i)`, with i the first ascent of w; and g if w has no ascent. The number of these steps
-- is the number of pairs of places i < j with w_i < w_j: each exchange at an ascent decreases it by 1.
abbrev pub schubert_over : Poly → List ℕ → Poly
schubert_over g w = descended g (rising_pairs w) w

-- S(w), the Schubert polynomial of a list w of n letters, in n variables: `schubert_over` of the monomial of the
-- staircase, x_1^(n-1)·x_2^(n-2)·..·x_(n-1)
abbrev pub schubert : List ℕ → Poly
schubert w = schubert_over (x_to (staircase (length w))) w

-- the Schubert polynomial of the permutation w in n variables, with the later variables set to 0
abbrev pub schubert_in : List ℕ → ℕ → Poly
schubert_in w n = restrict n (schubert w)

-- the sum of the Schubert polynomials of the permutations `ws`, in n variables
abbrev pub schuberts_in : List (List ℕ) → ℕ → Poly
schuberts_in ws n = flat_map (λ w. schubert_in w n) ws
