use Rattle.beta_list_laws.proofs.Windows.{alcove_only, length-end}
use Rattle.beta_list_laws.proofs.AlcoveEnds.{alcove_zero_where, alcove_end, alcove_sign}
use Rattle.beta_list_laws.proofs.AlcoveEnds.{alcove_found}
use Rattle.beta_list_laws.proofs.alcove.alcove_law.Goals as goal

pub returns-clause-zero : goal.returns-clause-zero
returns-clause-zero c = alcove_zero_where

pub returns-clause-end : goal.returns-clause-end
returns-clause-end c = alcove_end

pub returns-clause-only : goal.returns-clause-only
returns-clause-only c = alcove_only

pub returns-clause-length : goal.returns-clause-length
returns-clause-length c = length-end

pub returns-clause-sign : goal.returns-clause-sign
returns-clause-sign c = alcove_sign

pub returns-clause-window : goal.returns-clause-window
returns-clause-window c = λ n t b. alcove_found n t b
