use Rattle.std.proofs.Common.{length}
use Rattle.skew_shapes.proofs.order.+rises.Given as goal

abbrev pub decreases-rises : goal.decreases-rises
decreases-rises l = length l.row.now
