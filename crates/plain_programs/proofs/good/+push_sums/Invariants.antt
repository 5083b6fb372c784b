use Rattle.std.proofs.Common.{length, ◌+◌}
use Rattle.plain_programs.proofs.good.+push_sums.Given as goal

abbrev pub decreases-push_sums : goal.decreases-push_sums
decreases-push_sums l = length l.first.now + length l.second.now
