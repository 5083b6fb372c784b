use Rattle.std.proofs.Common.{length}
use Rattle.skew_shapes.proofs.standard.+times_in_row.Given as goal

abbrev pub decreases-times_in_row : goal.decreases-times_in_row
decreases-times_in_row l = length l.row.now
