use Rattle.std.proofs.Common.{eq-eqb, rules}
use Rattle.calc_words.proofs.WrittenLists.{written}
use Rattle.calc_words.proofs.FactorJudging.{ninth_first}
use Rattle.calc_words.proofs.factors.next_factor.Goals as goal

pub returns-then-len-eq-MOST_FACTORS : goal.returns-then-len-eq-MOST_FACTORS
returns-then-len-eq-MOST_FACTORS c = search (rules, ninth_first, eq-eqb)

pub pushed-requires-clause-next : goal.pushed-requires-clause-next
pushed-requires-clause-next c = search (rules, written)
