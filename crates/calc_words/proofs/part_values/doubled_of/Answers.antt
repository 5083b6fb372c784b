use Rattle.std.proofs.Common.{rules}
use Rattle.calc_words.proofs.PartValues.{letters_judged}
use Rattle.calc_words.proofs.part_values.doubled_of.Goals as goal

pub returns : goal.returns
returns c = search (rules, letters_judged)
