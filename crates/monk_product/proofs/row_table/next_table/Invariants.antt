-- The entries so far are values of one row more.
use Rattle.std.proofs.Common.{◌≡◌, ℕ, ◌+◌, List, take, get_or}
use Rattle.sym_model.specs.Polynomial.{Poly}
use Rattle.double_schubert_laws.specs.DiagramRows.{AreWithin}
use Rattle.monk_product.specs.RowPaths.{AreIn, AreValues}
use Rattle.monk_product.proofs.row_table.next_table.Given as goal

abbrev pub invariant-loop-q : goal.invariant-loop-q
invariant-loop-q l =
    (s : ℕ → Poly) (rows : List ℕ) → AreIn s → AreWithin l.n rows → get_or rows l.i 0 ≡ l.cells
    → AreValues s l.n (take l.i rows) l.table → AreValues s l.n (take (l.i + 1) rows) l.next.items
