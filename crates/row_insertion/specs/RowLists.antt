-- Rows of letters in vectors, and the last cell of a row removed.
use Rattle.std.specs.Prelude.{◌-◌, slice_index_or, slice_set, ℕ, zero, suc, List, [], ◌∷◌, map, Vec}
use Rattle.std.specs.declared.alloc.Global.{Global}
use Rattle.sym_model.specs.Tableau.{SkewFilling, shape_of}
use Rattle.insertion_laws.specs.Removal.{without_last, row_over}

-- the rows of numbers in a list of vectors
abbrev pub rows_in : List (Vec ℕ Global) → List (List ℕ)
rows_in rows = map (λ row. row.items) rows

-- row i of the list, counted from 0
abbrev pub row_at : List (List ℕ) → ℕ → List ℕ
row_at rows i = slice_index_or rows i []

-- the filling of straight shape with these rows
abbrev pub straight : List (List ℕ) → SkewFilling
straight rows = record { outer = shape_of rows; inner = []; rows = rows }

-- the filling t with the numbers of row `row`, counted from 1, replaced by the given ones
abbrev pub with_row : SkewFilling → ℕ → List ℕ → SkewFilling
with_row t row numbers =
    record { outer = t.outer; inner = t.inner; rows = slice_set t.rows (row - 1) numbers }

-- the rows without the last number of row i, counted from 0; if row i becomes empty, it is dropped
abbrev pub without_end : ℕ → List (List ℕ) → List (List ℕ)
without_end i [] = []
without_end zero (row ∷ rows) = row_over (without_last row) rows
without_end (suc i) (row ∷ rows) = row ∷ without_end i rows
