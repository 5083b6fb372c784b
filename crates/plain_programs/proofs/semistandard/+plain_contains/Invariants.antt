use Rattle.std.proofs.Common.{length}
use Rattle.plain_programs.proofs.semistandard.+plain_contains.Given as goal

abbrev pub decreases-plain_contains : goal.decreases-plain_contains
decreases-plain_contains l = length l.inner.now
