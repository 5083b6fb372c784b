use Rattle.calc_words.proofs.WrittenCommands.{words_keep}
use Rattle.calc_words.proofs.limits.written_limits_law.Goals as goal

pub returns : goal.returns
returns c = words_keep
