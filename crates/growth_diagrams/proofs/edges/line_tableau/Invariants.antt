use Rattle.std.proofs.Common.{◌≡◌, length}
use Rattle.sym_model.specs.Growth.{growth_shape, tableau_of_chain}
use Rattle.row_insertion.specs.RowLists.{rows_in}
use Rattle.growth_diagrams.proofs.edges.line_tableau.Given as goal

abbrev pub invariant-loop-at : goal.invariant-loop-at
invariant-loop-at l = rows_in l.rows.items ≡ tableau_of_chain (λ j. growth_shape l.grid (length l.grid) j) l.at
