-- The product of a polynomial s in x and y and a double Schubert polynomial, row by row of a diagram, as specs/DiagramRows of `double_schubert_laws` has it
-- for Schubert polynomials. Let q be a permutation of n letters. Divided differences in the x along a path to q are applied to the product of the
-- x_i - y_j over the cells (i, j) of a diagram, and then x and y are exchanged.
use Rattle.std.specs.Prelude.{ℕ, zero, suc, ◌+◌, List, length}
use Rattle.sym_model.specs.PlaceOrders.{minus_one_to}
use Rattle.sym_model.specs.Polynomial.{Poly, one, plus, scale, times}
use Rattle.sym_model.specs.Expansion.{beside}
use Rattle.sym_model.specs.DividedDifference.{variable_in}
use Rattle.sym_model.specs.DoubleSchubert.{restrict_both}
use Rattle.sym_model.specs.Schubert.{schubert_over}
use Rattle.schubert_laws.specs.Chains.{letters_before}
use Rattle.double_schubert_laws.specs.DiagramRows.{diagram_product, over_covers_of}
use Rattle.double_pieri_laws.specs.DoubleChains.{elementary_of, first_x}
use Rattle.double_row_laws.specs.ExchangedAlphabets.{exchange_alphabets}

-- s times the divided difference, along a path to q, of the product of the x_i - y_j over the cells of the diagram with these rows, with x and y exchanged;
-- the result is in k variables x and k variables y
abbrev pub times_double_rows : ℕ → Poly → List ℕ → List ℕ → Poly
times_double_rows k s rows q =
    times s (restrict_both (length q) k
    (exchange_alphabets (length q) (schubert_over (diagram_product rows (length q)) q)))

-- y_r·F(q) plus `over_covers_of m F q`, r being the place of the letter m in q; in k variables x and k variables y
abbrev pub over_place_of : ℕ → ℕ → (List ℕ → Poly) → List ℕ → Poly
over_place_of m k F q =
    plus (times (beside (one k) (variable_in (letters_before m q + 1) k)) (F q))
    (over_covers_of m F q)

-- in k variables x and k variables y: the sum over d ≤ e of (-1)^d·e_d(x_1, .., x_c) times F, to which `over_place_of m` was applied e - d times
abbrev pub one_double_row : ℕ → ℕ → ℕ → ℕ → (List ℕ → Poly) → List ℕ → Poly
one_double_row zero c m k F q = F q
one_double_row (suc e) c m k F q =
    plus
    (scale (minus_one_to (suc e)) (times (elementary_of (k + k) (suc e) (first_x c k)) (F q)))
    (over_place_of m k (λ v. one_double_row e c m k F v) q)
