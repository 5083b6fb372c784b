use Rattle.std.proofs.Common.{length}
use Rattle.plain_programs.proofs.insertion.+inserted_from.Given as goal

abbrev pub decreases-inserted_from : goal.decreases-inserted_from
decreases-inserted_from l = length l.word.now
