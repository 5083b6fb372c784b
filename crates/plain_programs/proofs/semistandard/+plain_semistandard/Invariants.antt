use Rattle.std.proofs.Common.{length}
use Rattle.plain_programs.proofs.semistandard.+plain_semistandard.Given as goal

abbrev pub decreases-plain_semistandard : goal.decreases-plain_semistandard
decreases-plain_semistandard l = length l.filling.now
