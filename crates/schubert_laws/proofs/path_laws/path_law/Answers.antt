use Rattle.schubert_laws.proofs.Paths.{over_step, any_descent}
use Rattle.schubert_laws.proofs.Dominant.{dominant}
use Rattle.schubert_laws.proofs.FixedLetters.{In_schubert}
use Rattle.schubert_laws.proofs.PathsFromOne.{descent_from_one, fixed_letter, fixed_letter_in}
use Rattle.schubert_laws.proofs.path_laws.path_law.Goals as goal

pub returns-clause-step : goal.returns-clause-step
returns-clause-step c = over_step

pub returns-clause-every_path : goal.returns-clause-every_path
returns-clause-every_path c = any_descent

pub returns-clause-descent : goal.returns-clause-descent
returns-clause-descent c = descent_from_one

pub returns-clause-variables : goal.returns-clause-variables
returns-clause-variables c = In_schubert

pub returns-clause-fixed_letter : goal.returns-clause-fixed_letter
returns-clause-fixed_letter c = fixed_letter

pub returns-clause-fixed_letter_in : goal.returns-clause-fixed_letter_in
returns-clause-fixed_letter_in c = fixed_letter_in

pub returns-clause-dominant : goal.returns-clause-dominant
returns-clause-dominant c = dominant
