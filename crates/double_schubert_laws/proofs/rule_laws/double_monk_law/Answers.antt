use Rattle.double_schubert_laws.proofs.DoubleVariables.{double_monk_in, double_transition_in}
use Rattle.double_schubert_laws.proofs.rule_laws.double_monk_law.Goals as goal

pub returns-clause-monk : goal.returns-clause-monk
returns-clause-monk c = λ w r n. double_monk_in r n w

pub returns-clause-transition : goal.returns-clause-transition
returns-clause-transition c = λ w r s n. double_transition_in r s n w
