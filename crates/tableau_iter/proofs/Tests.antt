-- The test of `lattice_reading`: rows are a lattice tableau if and only if they have the lengths of the rows of the shape, and their column reading
-- is among the lattice readings.
use Rattle.std.proofs.Common.{◌≡◌, ℕ, Bool, true, false, ◌&&◌, List, map, length, sym, ap, ap₂, ◌∙◌}
use Rattle.std.proofs.lemmas.List.{length-map}
use Rattle.std.proofs.lemmas.Bool.{false_from_ne_true}
use Rattle.strip_laws.proofs.Containment.{contains-tells}
use Rattle.sym_model.specs.TableauList.{is_lattice_tableau}
use Rattle.sym_model.specs.GoodTableau.{column_reading, is_among, lattice_readings}
use Rattle.sym_model.specs.Partition.{Falls, Holds, cells}
use Rattle.sym_model.specs.Polynomial.{same}
use Rattle.sym_model.specs.Schur.{contains, row_lengths}
use Rattle.sym_model.specs.TableauList.{reading_cells}
use Rattle.sym_model.proofs.Exponents.{same_true, same_refl}
use Rattle.tableau_iter.proofs.Orders.{length-reading}
use Rattle.tableau_iter.specs.ReadRows.{letter_in_rows}
use Rattle.tableau_iter.proofs.Membership.{none_outside}
use Rattle.tableau_iter.proofs.RowLengths.{reading_in}
use Rattle.std.proofs.Math.Bool.{and-false}

pub lengths_told : (b : Bool) (lengths : List ℕ) (o i outer inner : List ℕ) → b ≡ same lengths (row_lengths o i) → b ≡ true → o ≡ outer → i ≡ inner
    → lengths ≡ row_lengths outer inner
lengths_told b lengths o i outer inner t e p q = same_true lengths (row_lengths o i) (sym t ∙ e) ∙ ap₂ row_lengths p q

pub right_lengths : (outer inner : List ℕ) (rows : List (List ℕ)) (b : Bool) → map length rows ≡ row_lengths outer inner
    → b ≡ is_among (column_reading outer inner rows) (lattice_readings outer inner) → is_lattice_tableau outer inner rows ≡ b
right_lengths outer inner rows b l e =
    ap (λ x. x && is_among (column_reading outer inner rows) (lattice_readings outer inner))
    (ap (λ ls. same ls (row_lengths outer inner)) l ∙ same_refl (row_lengths outer inner))
    ∙ sym e

pub not_contained : (outer inner : List ℕ) (rows : List (List ℕ)) → (Holds outer inner → ⊥) → is_lattice_tableau outer inner rows ≡ false
not_contained outer inner rows n =
    ap (λ x. same (map length rows) (row_lengths outer inner) && x)
    (none_outside outer inner (column_reading outer inner rows) (false_from_ne_true (contains outer inner) (λ e. n (contains-tells outer inner e))))
    ∙ and-false (same (map length rows) (row_lengths outer inner))

pub reading_count : (outer inner : List ℕ) (rows : List (List ℕ)) → Falls outer → map length rows ≡ row_lengths outer inner
    → length (column_reading outer inner rows) ≡ length (cells outer inner)
reading_count outer inner rows f l =
    ap length (sym (reading_in outer inner rows l))
    ∙ length-map (reading_cells outer inner) (λ (c : ℕ × ℕ). letter_in_rows inner rows c.0 c.1) ∙ length-reading outer inner f
