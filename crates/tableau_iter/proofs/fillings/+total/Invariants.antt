use Rattle.std.proofs.Common.{length}
use Rattle.tableau_iter.proofs.fillings.+total.Given as goal

abbrev pub decreases-total : goal.decreases-total
decreases-total l = length l.numbers.now
