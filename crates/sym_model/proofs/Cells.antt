-- The number of cells in the first rows of a skew shape outer/inner.
use Rattle.std.proofs.Common.{◌≡◌, ℕ, ◌+◌, ◌-◌, List, length, get_or, flat_map, rules}
use Rattle.std.proofs.lemmas.List.{length-map, length-append}
use Rattle.std.proofs.lemmas.Grind.{flat_map-append}
use Rattle.sym_model.specs.Partition.{part, after, row_cells}
use Rattle.sym_model.proofs.AfterLists.{length_after, after-more}

pub length-row_cells : (outer inner : List ℕ) (row : ℕ) → length (row_cells outer inner row) ≡ part outer row - part inner row
length-row_cells outer inner row = search (rules, length-map, length_after)

-- the number of cells of outer/inner in the rows 1, .., k + 1 is the number of its cells in the rows 1, .., k plus the
-- length of row k + 1
pub cells_to-more :
    (outer inner : List ℕ) (k : ℕ)
    → length (flat_map (row_cells outer inner) (after 0 (k + 1)))
    ≡ length (flat_map (row_cells outer inner) (after 0 k)) + (get_or outer k 0 - get_or inner k 0)
cells_to-more outer inner k = search (rules, after-more, flat_map-append, length-append, length-row_cells)
