-- The entries of a lattice tableau of shape outer/inner are from 1 to the number of rows of outer.
use Rattle.std.proofs.Common.{◌≡◌, ℕ, true, List, map, length, subst, sym, ap, ◌∙◌}
use Rattle.std.proofs.lemmas.Bool.{and_parts}
use Rattle.sym_model.specs.TableauList.{is_lattice_tableau}
use Rattle.sym_model.specs.GoodTableau.{column_reading, is_among, lattice_readings}
use Rattle.sym_model.specs.Partition.{Falls, cells}
use Rattle.sym_model.specs.Polynomial.{same}
use Rattle.sym_model.specs.Schur.{row_lengths}
use Rattle.sym_model.specs.TableauList.{filling_of}
use Rattle.sym_model.proofs.Exponents.{same_true}
pub use Rattle.tableau_iter.proofs.GoodWords.{RowsWithin}
use Rattle.tableau_iter.proofs.GoodWords.{filling-within, letter_of, rows-by_cells}
use Rattle.tableau_iter.proofs.Orders.{filling_of-reading, length-reading}
use Rattle.tableau_iter.proofs.Membership.{listed_tells}
use Rattle.sym_model.proofs.Tableaux.{word_tells}

-- if the rows have the lengths of the rows of outer/inner, the filling of outer/inner with their column reading has these rows
pub filling_back : (outer inner : List ℕ) (rows : List (List ℕ)) → Falls outer → map length rows ≡ row_lengths outer inner
    → filling_of outer inner (column_reading outer inner rows) ≡ rows
filling_back outer inner rows f l =
    ap (λ rs. filling_of outer inner (column_reading outer inner rs)) (rows-by_cells outer inner rows l)
    ∙ filling_of-reading (letter_of inner rows) outer inner f ∙ sym (rows-by_cells outer inner rows l)

pub rows_within : (outer inner : List ℕ) (rows : List (List ℕ)) → Falls outer → is_lattice_tableau outer inner rows ≡ true → RowsWithin (length outer) rows
rows_within outer inner rows f h =
    let both = and_parts (same (map length rows) (row_lengths outer inner)) (is_among (column_reading outer inner rows) (lattice_readings outer inner)) h in
    let l = same_true (map length rows) (row_lengths outer inner) both.0 in
    let told = listed_tells outer inner (column_reading outer inner rows) both.1 in
    let word = word_tells (length outer) (length (cells outer inner)) (column_reading outer inner rows) told.0 in
    subst (RowsWithin (length outer)) (filling_back outer inner rows f l)
    (filling-within (length outer) outer inner (column_reading outer inner rows) f (word.0 ∙ sym (length-reading outer inner f)) word.1)
