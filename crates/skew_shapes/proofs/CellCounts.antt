-- The number of cells of a skew shape outer/inner is the size of outer minus that of inner.
use Rattle.std.proofs.Common.{◌≡◌, ℕ, zero, suc, ◌+◌, ◌-◌, ◌≤◌, List, [], ◌∷◌, length, take, get_or, ap, refl, arith, flat_map, rules}
use Rattle.std.proofs.lemmas.List.{take_all}
use Rattle.sym_model.specs.Partition.{size, after, cells, row_cells}
use Rattle.strip_laws.proofs.Containment.{contains-tells, Holds-get_or}
use Rattle.skew_shapes.specs.Shapes.{IsSkew}
use Rattle.sym_model.proofs.Parts.{rows_held}
use Rattle.sym_model.proofs.Cells.{cells_to-more}

size-take_one : (xs : List ℕ) (k : ℕ) → size (take (suc k) xs) ≡ size (take k xs) + get_or xs k 0
size-take_one [] zero = omega arith
size-take_one [] (suc k) = omega arith
size-take_one (a ∷ xs) zero = omega arith
size-take_one (a ∷ xs) (suc k) = omega (arith, size-take_one xs k)

cells_in_front :
    (outer inner : List ℕ) (k : ℕ) → ((i : ℕ) → get_or inner i 0 ≤ get_or outer i 0) → k ≤ length outer → length inner ≤ length outer
    → length (flat_map (row_cells outer inner) (after 0 k)) + size (take k inner) ≡ size (take k outer)
cells_in_front outer inner zero h l m = refl
cells_in_front outer inner (suc k) h l m =
    let e : suc k ≡ k + 1 = omega arith in
    omega (
      arith,
      ap (λ n. length (flat_map (row_cells outer inner) (after 0 n))) e,
      cells_to-more outer inner k,
      size-take_one inner k,
      size-take_one outer k,
      cells_in_front outer inner k h (omega arith) m,
      h k,
    )

pub length-cells : (outer inner : List ℕ) → IsSkew outer inner → length (cells outer inner) + size inner ≡ size outer
length-cells outer inner s = search (rules, Holds-get_or, contains-tells, rows_held, take_all, cells_in_front)
