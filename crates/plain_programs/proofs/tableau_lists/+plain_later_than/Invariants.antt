use Rattle.std.proofs.Common.{length}
use Rattle.plain_programs.proofs.tableau_lists.+plain_later_than.Given as goal

abbrev pub decreases-plain_later_than : goal.decreases-plain_later_than
decreases-plain_later_than l = length l.list.now
