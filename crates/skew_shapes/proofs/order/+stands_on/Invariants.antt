use Rattle.std.proofs.Common.{length}
use Rattle.skew_shapes.proofs.order.+stands_on.Given as goal

abbrev pub decreases-stands_on : goal.decreases-stands_on
decreases-stands_on l = length l.upper.now
