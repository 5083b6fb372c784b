-- A filling whose cells have the letters of a word w in the order of the column reading (`HoldsLetters`) is the filling `filled_with` of w.
use Rattle.std.proofs.Common.{◌≡◌, ℕ, List, ap, rules}
use Rattle.sym_model.specs.Tableau.{SkewFilling}
use Rattle.sym_model.specs.TableauList.{letter_of_cell, reading_cells}
use Rattle.skew_shapes.specs.CellFillings.{filled_with}
use Rattle.skew_shapes.specs.Rows.{HoldsLetters, number_in, filling_in}
use Rattle.skew_shapes.proofs.CellRows.{rows_by-ext}

pub filled :
    (shape : List ℕ × List ℕ) (starts numbers w : List ℕ) → HoldsLetters starts numbers shape.0 shape.1 (reading_cells shape.0 shape.1) w
    → filling_in shape starts numbers ≡ filled_with shape.0 shape.1 w
filled shape starts numbers w h =
    ap (λ (xs : List (List ℕ)). let t : SkewFilling = record { outer = shape.0; inner = shape.1; rows = xs } in t)
    (rows_by-ext (number_in starts numbers) (λ row column. letter_of_cell row column (reading_cells shape.0 shape.1) w) shape.0 shape.1 h)

pub moved :
    (starts starts' numbers outer outer' inner inner' w : List ℕ) → HoldsLetters starts numbers outer inner (reading_cells outer inner) w
    → starts ≡ starts' → outer ≡ outer' → inner ≡ inner' → HoldsLetters starts' numbers outer' inner' (reading_cells outer' inner') w
moved starts starts' numbers outer outer' inner inner' w h s o i = search rules
