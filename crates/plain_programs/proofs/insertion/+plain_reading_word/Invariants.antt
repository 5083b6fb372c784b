use Rattle.std.proofs.Common.{length}
use Rattle.plain_programs.proofs.insertion.+plain_reading_word.Given as goal

abbrev pub decreases-plain_reading_word : goal.decreases-plain_reading_word
decreases-plain_reading_word l = length l.rows.now
