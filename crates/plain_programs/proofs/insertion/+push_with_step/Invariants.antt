use Rattle.std.proofs.Common.{length}
use Rattle.plain_programs.proofs.insertion.+push_with_step.Given as goal

abbrev pub decreases-push_with_step : goal.decreases-push_with_step
decreases-push_with_step l = length l.insertion.now
