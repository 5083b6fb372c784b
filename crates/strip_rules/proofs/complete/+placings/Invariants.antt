use Rattle.std.proofs.Common.{length}
use Rattle.strip_rules.proofs.complete.+placings.Given as goal

abbrev pub decreases-placings : goal.decreases-placings
decreases-placings l = length l.inner.now
