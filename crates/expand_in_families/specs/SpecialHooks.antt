-- Special rim hooks: the rim hooks of a shape that have the first cell of its last row (Egecioglu
-- and Remmel).
use Rattle.std.specs.Prelude.{ℕ, ◌+◌, ◌-◌, ℤ, List, [], ◌∷◌, map}
use Rattle.sym_model.specs.Partition.{rows, without_last_zeros}
use Rattle.sym_model.specs.PlaceOrders.{minus_one_to}

-- a special rim hook of a shape: the sign (-1)^(height - 1), the number of its cells, and the shape that remains without these cells
pub record SpecialHook : Type 0 where
  pub sign : ℤ
  pub cells : ℕ
  pub rest : List ℕ

-- each row shortened by one cell, without the rows that are then empty: the shape without its first column
abbrev pub shortened : List ℕ → List ℕ
shortened parts = without_last_zeros (map (λ a. a - 1) parts)

-- the special rim hook h of a shape, as a special rim hook of the shape with a row of a cells added above the other rows: the remaining shape gets
-- this row too
abbrev pub below_row : ℕ → SpecialHook → SpecialHook
below_row a h = record { sign = h.sign; cells = h.cells; rest = a ∷ h.rest }

-- the special rim hooks of a shape, one for each row in which the hook can end, from the first row to the last. For the hook that ends in the first
-- row, the number of cells is the length of this row plus the number of rows below it, and the remaining shape has the rows below it, each shortened
-- by one cell.
abbrev pub special_hooks : List ℕ → List SpecialHook
special_hooks [] = []
special_hooks (a ∷ parts) =
    record { sign = minus_one_to (rows parts); cells = a + rows parts; rest = shortened parts }
    ∷ map (below_row a) (special_hooks parts)
