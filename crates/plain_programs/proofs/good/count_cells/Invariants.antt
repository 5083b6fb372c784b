use Rattle.std.proofs.Common.{◌≡◌, length}
use Rattle.plain_programs.proofs.Cells.{cells_to}
use Rattle.plain_programs.proofs.good.count_cells.Given as goal

abbrev pub invariant-loop-i : goal.invariant-loop-i
invariant-loop-i l = l.count ≡ length (cells_to l.outer l.inner l.i)
