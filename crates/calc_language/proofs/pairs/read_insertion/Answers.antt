use Rattle.std.proofs.Common.{rules}
use Rattle.word_laws.proofs.EarlierOffences.{first_of_both}
use Rattle.word_laws.proofs.JudgedRows.{inserted_first}
use Rattle.calc_language.proofs.OnceJudged.{inserted_judged}
use Rattle.calc_language.proofs.pairs.read_insertion.Goals as goal

pub returns : goal.returns
returns c = search (rules, inserted_judged, first_of_both, inserted_first)
