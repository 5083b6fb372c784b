use Rattle.double_schubert_laws.proofs.KeptChains.{before_kept, after_kept, before_short, after_short, place_kept, pieri_kept, none_kept}
use Rattle.double_schubert_laws.proofs.letter_laws.fixed_letters_law.Goals as goal

pub returns-clause-before : goal.returns-clause-before
returns-clause-before c = before_kept

pub returns-clause-after : goal.returns-clause-after
returns-clause-after c = after_kept

pub returns-clause-before_short : goal.returns-clause-before_short
returns-clause-before_short c = before_short

pub returns-clause-after_short : goal.returns-clause-after_short
returns-clause-after_short c = after_short

pub returns-clause-place : goal.returns-clause-place
returns-clause-place c = place_kept

pub returns-clause-pieri : goal.returns-clause-pieri
returns-clause-pieri c = pieri_kept

pub returns-clause-none : goal.returns-clause-none
returns-clause-none c = none_kept
