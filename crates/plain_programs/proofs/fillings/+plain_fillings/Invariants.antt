use Rattle.std.proofs.Common.{length}
use Rattle.plain_programs.proofs.fillings.+plain_fillings.Given as goal

abbrev pub decreases-plain_fillings : goal.decreases-plain_fillings
decreases-plain_fillings l = length l.lengths.now
