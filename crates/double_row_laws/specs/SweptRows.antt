-- A row of a diagram, in products with double Schubert polynomials row by row, letter by letter of the greater permutation. F(w, q) stands for S_w times the
-- value of the rows before at q. Places count from 1.
use Rattle.std.specs.Prelude.{ℕ, zero, suc, nat_lt, cond, List, flat_map}
use Rattle.sym_model.specs.Polynomial.{Poly, one, plus, negate, times}
use Rattle.sym_model.specs.Expansion.{beside}
use Rattle.sym_model.specs.DividedDifference.{variable_in}
use Rattle.schubert_laws.specs.Chains.{letters_before, lifted}
use Rattle.double_row_laws.specs.DoubleRows.{over_place_of}

-- in k variables x and k variables y: F after the letters m, .., 1 of w have been taken in turn. A letter a at one of the first c places gives T - y_a, with
-- T = `over_place_of l`, which acts on q. Another letter gives 1 minus the sum over the covers of w that exchange it with one at the first c places.
abbrev pub swept : ℕ → ℕ → ℕ → ℕ → (List ℕ → List ℕ → Poly) → List ℕ → List ℕ → Poly
swept zero c k l F w q = F w q
swept (suc m) c k l F w q =
    cond (nat_lt (letters_before (suc m) w) c)
    (plus (over_place_of l k (λ p. swept m c k l F w p) q)
    (negate (times (beside (one k) (variable_in (suc m) k)) (swept m c k l F w q))))
    (plus (swept m c k l F w q)
    (negate (flat_map (λ v. swept m c k l F v q) (lifted c (suc m) w))))
