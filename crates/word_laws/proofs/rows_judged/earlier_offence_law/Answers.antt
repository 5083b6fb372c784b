use Rattle.word_laws.proofs.EarlierOffences.{first_of_both}
use Rattle.word_laws.proofs.rows_judged.earlier_offence_law.Goals as goal

pub returns : goal.returns
returns c = first_of_both
