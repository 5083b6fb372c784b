use Rattle.std.proofs.Common.{◌≡◌, ◌++◌, length, drop}
use Rattle.lr_product.specs.ColumnLine.{column_line}
use Rattle.lr_product.proofs.columns.write_line.Given as goal

abbrev pub invariant-loop-row : goal.invariant-loop-row
invariant-loop-row l = (l.line.items ++ column_line l.column (drop l.row l.outer) (drop l.row l.inner) ≡ column_line l.column l.outer l.inner) × (l.row-end ≡ length l.outer)
