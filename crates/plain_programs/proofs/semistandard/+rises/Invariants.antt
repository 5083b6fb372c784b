use Rattle.std.proofs.Common.{length}
use Rattle.plain_programs.proofs.semistandard.+rises.Given as goal

abbrev pub decreases-rises : goal.decreases-rises
decreases-rises l = length l.row.now
