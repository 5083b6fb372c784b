-- The line of a column of a skew shape: which places of the column are cells.
use Rattle.std.specs.Prelude.{ℕ, nat_le, nat_lt, Bool, cond, List, [], ◌∷◌, ◌++◌, drop}
use Rattle.sym_model.specs.Partition.{part}

-- the line of column j of outer/inner, with j counted from 1: for each row of outer with at least j cells, whether its cell in column j is a cell of
-- outer/inner
abbrev pub column_line : ℕ → List ℕ → List ℕ → List Bool
column_line j [] inner = []
column_line j (a ∷ outer) inner =
    cond (nat_le j a) (nat_lt (part inner 1) j ∷ []) [] ++ column_line j outer (drop 1 inner)
