use Rattle.std.proofs.Common.{◌≡◌, take}
use Rattle.sym_model.specs.Tableau.{shape_of}
use Rattle.row_insertion.specs.RowLists.{rows_in}
use Rattle.row_insertion.proofs.making.straight_shape.Given as goal

abbrev pub invariant-loop-row : goal.invariant-loop-row
invariant-loop-row l = l.parts.items ≡ take l.row-index (shape_of (rows_in l.rows))
