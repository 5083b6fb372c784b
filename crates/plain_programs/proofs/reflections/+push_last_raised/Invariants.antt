use Rattle.std.proofs.Common.{length}
use Rattle.plain_programs.proofs.reflections.+push_last_raised.Given as goal

abbrev pub decreases-push_last_raised : goal.decreases-push_last_raised
decreases-push_last_raised l = length l.list.now
