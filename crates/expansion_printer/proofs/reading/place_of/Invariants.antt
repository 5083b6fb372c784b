use Rattle.std.proofs.Common.{◌≡◌, ◌≤◌, ◌*◌}
use Rattle.sym_model.specs.Partition.{after}
use Rattle.expansion_printer.proofs.ReadingCells.{cells_in_rows}
use Rattle.expansion_printer.proofs.reading.place_of.Given as goal

-- `before` is the number of cells of the rows visited so far that come before the given cell in a column reading; it is at most 65,536 times the
-- number of these rows
abbrev pub invariant-loop-at : goal.invariant-loop-at
invariant-loop-at l = record {
  counted : l.before ≡ cells_in_rows l.shape.0 l.shape.1 l.row l.column (after 0 l.at);
  few : l.before ≤ 65536 * l.at;
}
