use Rattle.std.proofs.Common.{eq-eqb, rules}
use Rattle.std.proofs.lemmas.Bool.{ne_eqb}
use Rattle.calc_words.proofs.LineWords.{return_dropped, no_return}
use Rattle.calc_words.proofs.line.without_return.Goals as goal

pub returns-then-last-eq13 : goal.returns-then-last-eq13
returns-then-last-eq13 c = search (rules, return_dropped, eq-eqb)

pub returns-else-last-eq13 : goal.returns-else-last-eq13
returns-else-last-eq13 c = search (rules, no_return, ne_eqb)
