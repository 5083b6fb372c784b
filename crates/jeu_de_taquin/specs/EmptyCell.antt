-- The neighbour that moves into the empty cell of a slide, and the rows at the end of the slide.
use Rattle.std.specs.Prelude.{ℕ, ◌+◌, ◌-◌, nat_lt, cond, List, ◌++◌, take, drop, Option, Some, None}
use Rattle.sym_model.specs.Slide.{slid_rows}
use Rattle.sym_model.specs.Tableau.{SkewFilling}
use Rattle.skew_shapes.specs.CellFillings.{row_of, place_in_row}
use Rattle.jeu_de_taquin.specs.declared.empty_cell.Neighbour.{Neighbour}
use Rattle.jeu_de_taquin.specs.declared.empty_cell.Neighbour.TheVariants.{Right, Below, Nobody}

-- the neighbour that moves into the empty cell, given the letters to the right of the cell and below it: the one with the smaller letter, the lower
-- one if the letters are equal, the only one if there is only one, and `Nobody` if there is none
abbrev pub next_of : Option ℕ → Option ℕ → Neighbour
next_of None None = Nobody
next_of (Some a) None = Right a
next_of None (Some b) = Below b
next_of (Some a) (Some b) = cond {A = Neighbour} (nat_lt a b) (Right a) (Below b)

-- the rows at the end of a slide that continues in the filling t with the empty cell (row, column); the number in that cell has no effect
abbrev pub slid_from : SkewFilling → ℕ → ℕ → List (List ℕ)
slid_from t row column =
    let here = row_of t.rows row in
    let place = place_in_row t.inner row column in
    take (row - 1) t.rows
    ++ slid_rows (drop (row - 1) t.inner) (take place here) (drop (place + 1) here)
    (drop row t.rows)
