use Rattle.std.proofs.Common.{length}
use Rattle.plain_programs.proofs.readings.+push_column.Given as goal

abbrev pub decreases-push_column : goal.decreases-push_column
decreases-push_column l = length l.filling.now
