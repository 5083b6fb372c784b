-- The product of a polynomial s and a Schubert polynomial, row by row of a diagram (Samuel's way to multiply Schubert polynomials). Let q be a
-- permutation of n letters. Divided differences in the x along a path to q are applied to the product of the x_i - y_j over the cells (i, j) of a
-- diagram, and then each x_i is set to 0.
use Rattle.std.specs.Prelude.{ℕ, zero, suc, ◌+◌, ◌<◌, ◌≤◌, List, [], map, length, get_or, flat_map}
use Rattle.sym_model.specs.Partition.{cells}
use Rattle.sym_model.specs.PlaceOrders.{minus_one_to}
use Rattle.sym_model.specs.Polynomial.{Poly, Same, plus, negate, scale, times, restrict}
use Rattle.sym_model.specs.DoubleSchubert.{product_of, difference_in, double_schubert}
use Rattle.sym_model.specs.Schubert.{schubert_over}
use Rattle.schubert_laws.specs.Chains.{letters_before, elementary_in}
use Rattle.schubert_laws.specs.PathCovers.{covers_after, covers_before}
use Rattle.double_schubert_laws.specs.AtZero.{at_x_zero}

-- no row has more than n cells
pub record AreWithin (n : ℕ) (rows : List ℕ) : Type 0 where
  pub at : (i : ℕ) → get_or rows i 0 ≤ n

-- two letters a and a + 1 of q, both at most m, stand in q in this order
pub record HasLeftAscent (m : ℕ) (q : List ℕ) : Type 0 where
  pub letter : ℕ
  pub first : 1 ≤ letter
  pub last : suc letter ≤ m
  pub order : letters_before letter q < letters_before (suc letter) q

-- the product of the x_i - y_j over the cells (i, j) of the diagram with these rows, in n variables x and n variables y
abbrev pub diagram_product : List ℕ → ℕ → Poly
diagram_product rows n =
    product_of (n + n) (map (λ cell. difference_in cell.0 cell.1 n) (cells rows []))

-- s times the divided difference of this product along a path to q, at x = 0; the result is in k variables, which are called x again
abbrev pub times_rows : ℕ → Poly → List ℕ → List ℕ → Poly
times_rows k s rows q =
    times s (restrict k (at_x_zero (length q) (schubert_over (diagram_product rows (length q)) q)))

-- the sum of F(v) over the covers v = q·t_ar with a < r minus the sum over the covers v = q·t_rb with r < b, r being the place of the letter m in q
abbrev pub over_covers_of : ℕ → (List ℕ → Poly) → List ℕ → Poly
over_covers_of m F q =
    plus (flat_map F (covers_before (letters_before m q + 1) q))
    (negate (flat_map F (covers_after (letters_before m q + 1) q)))

-- in k variables: the sum over d ≤ e of (-1)^d·e_d(x_1, .., x_c) times F, to which `over_covers_of m` was applied e - d times
abbrev pub one_row : ℕ → ℕ → ℕ → ℕ → (List ℕ → Poly) → List ℕ → Poly
one_row zero c m k F q = F q
one_row (suc e) c m k F q =
    plus (scale (minus_one_to (suc e)) (times (elementary_in (suc e) c k) (F q)))
    (over_covers_of m (λ v. one_row e c m k F v) q)

-- the divided difference of S(μ; x, y) along a path to p is S(w; x, y)
abbrev pub LeadsTo : List ℕ → List ℕ → List ℕ → Type 0
LeadsTo μ p w =
    Same (schubert_over (double_schubert μ (length μ)) p) (double_schubert w (length μ))
