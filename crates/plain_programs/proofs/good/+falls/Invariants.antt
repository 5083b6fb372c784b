use Rattle.std.proofs.Common.{length}
use Rattle.plain_programs.proofs.good.+falls.Given as goal

abbrev pub decreases-falls : goal.decreases-falls
decreases-falls l = length l.numbers.now
