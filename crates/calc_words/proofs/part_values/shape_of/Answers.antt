use Rattle.std.proofs.Common.{rules}
use Rattle.calc_words.proofs.PartValues.{shape_judged}
use Rattle.calc_words.proofs.part_values.shape_of.Goals as goal

pub returns : goal.returns
returns c = search (rules, shape_judged)
