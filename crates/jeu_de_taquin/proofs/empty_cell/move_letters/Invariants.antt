-- Loop invariant: the slide that continues with the present empty cell ends with the same rows as the one that began before the loop.
use Rattle.std.proofs.Common.{◌≡◌, ◌+◌, ◌-◌}
use Rattle.sym_model.specs.Partition.{IsCell}
use Rattle.skew_shapes.specs.CellFillings.{IsFilling}
use Rattle.jeu_de_taquin.specs.EmptyCell.{slid_from}
use Rattle.jeu_de_taquin.proofs.empty_cell.move_letters.Given as goal

abbrev pub invariant-loop-letter : goal.invariant-loop-letter
invariant-loop-letter l = record {
  outer : l.filled.outer ≡ l.fn.filled.outer;
  inner : l.filled.inner ≡ l.fn.filled.inner;
  filling : IsFilling l.filled;
  cell : IsCell l.filled.outer l.filled.inner l.row l.column;
  rows : slid_from l.fn.filled l.fn.row l.fn.column ≡ slid_from l.filled l.row l.column;
}

-- decreases: each move increases row + column, which is at most 512 + 4096
abbrev pub decreases-loop-letter : goal.decreases-loop-letter
decreases-loop-letter l = 5000 - (l.row + l.column)
