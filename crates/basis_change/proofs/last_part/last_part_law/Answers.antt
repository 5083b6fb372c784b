use Rattle.basis_change.proofs.StraightenedArrangements.{no_part, last_part}
use Rattle.basis_change.proofs.last_part.last_part_law.Goals as goal

pub returns-clause-none : goal.returns-clause-none
returns-clause-none c = no_part

pub returns-clause-step : goal.returns-clause-step
returns-clause-step c = last_part
