use Rattle.std.proofs.Common.{refl}
use Rattle.worked_examples.proofs.expansions.change_of_basis_examples_law.Goals as goal

pub returns-clause-power_sums : goal.returns-clause-power_sums
returns-clause-power_sums c = refl

pub returns-clause-completes : goal.returns-clause-completes
returns-clause-completes c = refl

pub returns-clause-elementaries : goal.returns-clause-elementaries
returns-clause-elementaries c = refl

pub returns-clause-schur : goal.returns-clause-schur
returns-clause-schur c = refl

pub returns-clause-schurs : goal.returns-clause-schurs
returns-clause-schurs c = refl

pub returns-clause-hooks : goal.returns-clause-hooks
returns-clause-hooks c = refl

pub returns-clause-degree_nine : goal.returns-clause-degree_nine
returns-clause-degree_nine c = refl
