use Rattle.std.proofs.Common.{length}
use Rattle.skew_shapes.proofs.order.+all_positive.Given as goal

abbrev pub decreases-all_positive : goal.decreases-all_positive
decreases-all_positive l = length l.row.now
