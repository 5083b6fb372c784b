use Rattle.std.proofs.Common.{rules}
use Rattle.calc_words.proofs.PartValues.{word_judged}
use Rattle.calc_words.proofs.part_values.word_of.Goals as goal

pub returns : goal.returns
returns c = search (rules, word_judged)
