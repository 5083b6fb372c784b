use Rattle.schur_laws.proofs.IndependentSchurs.{schurs-independent, pairs-independent}
use Rattle.schur_laws.proofs.independence.schur_independence_law.Goals as goal

pub returns-clause-schur : goal.returns-clause-schur
returns-clause-schur c = schurs-independent

pub returns-clause-pairs : goal.returns-clause-pairs
returns-clause-pairs c = pairs-independent
