use Rattle.std.proofs.Common.{length}
use Rattle.plain_programs.proofs.permutations.+push_code.Given as goal

abbrev pub decreases-push_code : goal.decreases-push_code
decreases-push_code l = length l.letters.now
