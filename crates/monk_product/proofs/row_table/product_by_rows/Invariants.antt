-- The table has values of the rows visited so far.
use Rattle.std.proofs.Common.{take}
use Rattle.monk_product.specs.RowPaths.{AreValues, signed_by}
use Rattle.monk_product.proofs.row_table.product_by_rows.Given as goal

abbrev pub invariant-loop-i : goal.invariant-loop-i
invariant-loop-i l =
    AreValues (signed_by l.v l.u) l.path.letters (take l.i l.path.rows.items) l.table.items
