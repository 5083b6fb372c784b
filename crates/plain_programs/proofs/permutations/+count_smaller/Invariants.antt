use Rattle.std.proofs.Common.{length}
use Rattle.plain_programs.proofs.permutations.+count_smaller.Given as goal

abbrev pub decreases-count_smaller : goal.decreases-count_smaller
decreases-count_smaller l = length l.letters.now
