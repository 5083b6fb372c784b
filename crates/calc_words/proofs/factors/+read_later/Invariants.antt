use Rattle.std.proofs.Common.{length}
use Rattle.calc_words.proofs.factors.+read_later.Given as goal

abbrev pub decreases-read_later : goal.decreases-read_later
decreases-read_later l = length l.words.now
