use Rattle.std.proofs.Common.{◌-◌, length}
use Rattle.tableau_iter.proofs.walk.+next.Given as goal

abbrev pub decreases-next : goal.decreases-next
decreases-next l = length l.board.now.word - l.place
