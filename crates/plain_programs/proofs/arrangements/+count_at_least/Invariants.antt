use Rattle.std.proofs.Common.{length}
use Rattle.plain_programs.proofs.arrangements.+count_at_least.Given as goal

abbrev pub decreases-count_at_least : goal.decreases-count_at_least
decreases-count_at_least l = length l.numbers.now
