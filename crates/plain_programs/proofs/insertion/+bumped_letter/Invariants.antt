use Rattle.std.proofs.Common.{length}
use Rattle.plain_programs.proofs.insertion.+bumped_letter.Given as goal

abbrev pub decreases-bumped_letter : goal.decreases-bumped_letter
decreases-bumped_letter l = length l.row.now
