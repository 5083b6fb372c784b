-- The number of cells in the first rows of a skew shape.
use Rattle.std.proofs.Common.{◌≡◌, ℕ, zero, suc, ◌+◌, ◌-◌, ◌≤◌, List, length, ap, arith, flat_map}
use Rattle.sym_model.specs.Partition.{after, cells, row_cells}
use Rattle.sym_model.proofs.Cells.{cells_to-more}

-- the cells of the rows 1, .., k of outer/inner
abbrev pub cells_to : List ℕ → List ℕ → ℕ → List (ℕ × ℕ)
cells_to outer inner k = flat_map (row_cells outer inner) (after 0 k)

cells_to_rise : (outer inner : List ℕ) (d k : ℕ) → length (cells_to outer inner k) ≤ length (cells_to outer inner (k + d))
cells_to_rise outer inner zero k = let e : k + 0 ≡ k = omega arith in omega (arith, ap (λ n. length (cells_to outer inner n)) e)
cells_to_rise outer inner (suc d) k =
    let e : k + suc d ≡ k + d + 1 = omega arith in
    let a = cells_to_rise outer inner d k in
    let b = cells_to-more outer inner (k + d) in
    omega (arith, ap (λ n. length (cells_to outer inner n)) e, a, b)

pub cells_to_within : (outer inner : List ℕ) (k : ℕ) → k ≤ length outer → length (cells_to outer inner k) ≤ length (cells outer inner)
cells_to_within outer inner k h =
    let e : k + (length outer - k) ≡ length outer = omega arith in
    omega (arith, ap (λ n. length (cells_to outer inner n)) e, cells_to_rise outer inner (length outer - k) k)
