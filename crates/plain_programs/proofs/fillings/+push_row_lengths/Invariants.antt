use Rattle.std.proofs.Common.{length}
use Rattle.plain_programs.proofs.fillings.+push_row_lengths.Given as goal

abbrev pub decreases-push_row_lengths : goal.decreases-push_row_lengths
decreases-push_row_lengths l = length l.outer.now
