-- The list is the sum over the summands visited so far.
use Rattle.std.proofs.Common.{ℕ, List, take}
use Rattle.sym_model.specs.Polynomial.{Poly}
use Rattle.sym_model.specs.Permutation.{with_fixed}
use Rattle.double_schubert_laws.specs.DiagramRows.{times_rows}
use Rattle.monk_product.specs.RowPaths.{AreValues}
use Rattle.monk_product.proofs.RowTables.{IsSumOver}
use Rattle.monk_product.proofs.row_table.next_value.Given as goal

abbrev pub invariant-loop-summand : goal.invariant-loop-summand
invariant-loop-summand l =
    (s : ℕ → Poly) (rows : List ℕ) → AreValues s l.n (take l.i rows) l.table
    → (k : ℕ) → IsSumOver k (λ v. times_rows k (s k) (take l.i rows) (with_fixed l.n v)) l.cells
    (take l.summand-index l.summand-items) l.sum
