use Rattle.word_laws.proofs.JudgedRows.{inserted_first, recorded_first, skewed_first}
use Rattle.word_laws.proofs.rows_judged.judged_rows_law.Goals as goal

pub returns-clause-inserted : goal.returns-clause-inserted
returns-clause-inserted c = inserted_first

pub returns-clause-recorded : goal.returns-clause-recorded
returns-clause-recorded c = recorded_first

pub returns-clause-skewed : goal.returns-clause-skewed
returns-clause-skewed c = skewed_first
