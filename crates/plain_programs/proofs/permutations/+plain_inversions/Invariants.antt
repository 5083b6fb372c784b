use Rattle.std.proofs.Common.{length}
use Rattle.plain_programs.proofs.permutations.+plain_inversions.Given as goal

abbrev pub decreases-plain_inversions : goal.decreases-plain_inversions
decreases-plain_inversions l = length l.letters.now
