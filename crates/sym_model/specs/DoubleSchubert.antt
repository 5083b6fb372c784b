-- Double Schubert polynomials (Lascoux and Schützenberger; Macdonald, Notes on Schubert
-- polynomials, VI), as polynomials in m variables x at the places 1 to m and m variables y at the
-- places m + 1 to 2m.
use Rattle.std.specs.Prelude.{ℕ, ◌+◌, ◌-◌, ◌&&◌, List, [], ◌∷◌, ◌++◌, map, take, drop, length}
use Rattle.std.specs.Prelude.{filter, flat_map}
use Rattle.sym_model.specs.Partition.{after}
use Rattle.sym_model.specs.Polynomial.{Term, Poly, one, plus, negate, times, resize, fits_in}
use Rattle.sym_model.specs.DividedDifference.{x_to_in, variable_in}
use Rattle.sym_model.specs.Expansion.{beside}
use Rattle.sym_model.specs.Schubert.{schubert_over}

-- the product of a list of polynomials in n variables; 1 for the empty list
abbrev pub product_of : ℕ → List Poly → Poly
product_of n [] = one n
product_of n (f ∷ fs) = times f (product_of n fs)

-- the polynomial x_i - y_j, in m variables x and m variables y
abbrev pub difference_in : ℕ → ℕ → ℕ → Poly
difference_in i j m =
    plus (beside (variable_in i m) (one m)) (negate (beside (one m) (variable_in j m)))

-- the product of all x_i - y_j with i + j at most n, in m variables x and m variables y
abbrev pub difference_product : ℕ → ℕ → Poly
difference_product n m =
    product_of (m + m) (flat_map (λ i. map (λ j. difference_in i j m) (after 0 (n - i)))
    (after 0 n))

-- S(w; x, y), the double Schubert polynomial of a list w of n letters, in m variables x and m variables y, for m ≥ n:
-- the divided differences of `schubert_over` for w, in the x only, are applied to the product of all x_i - y_j with
-- i + j ≤ n
abbrev pub double_schubert : List ℕ → ℕ → Poly
double_schubert w m = schubert_over (difference_product (length w) m) w

-- the polynomial f, in m variables x and m variables y, with each x_i and each y_i with i > n set to 0; the result is
-- in n variables x and n variables y
abbrev pub restrict_both : ℕ → ℕ → Poly → Poly
restrict_both m n f =
    map (λ (t : Term). (resize n (take m t.0) ++ resize n (drop m t.0), t.1))
    (filter (λ (t : Term). fits_in n (take m t.0) && fits_in n (drop m t.0)) f)

-- the double Schubert polynomial of the permutation w in n variables x and n variables y, the later variables set to
-- 0
abbrev pub double_schubert_in : List ℕ → ℕ → Poly
double_schubert_in w n = restrict_both (length w) n (double_schubert w (length w))

-- the sum of the double Schubert polynomials of the permutations `ws`, in n variables x and n variables y
abbrev pub double_schuberts_in : List (List ℕ) → ℕ → Poly
double_schuberts_in ws n = flat_map (λ w. double_schubert_in w n) ws

-- y^β times the double Schubert polynomial of w, for the label (w, β), in n variables x and n variables y
abbrev pub shifted_in : List ℕ × List ℕ → ℕ → Poly
shifted_in label n = times (beside (one n) (x_to_in label.1 n)) (double_schubert_in label.0 n)
