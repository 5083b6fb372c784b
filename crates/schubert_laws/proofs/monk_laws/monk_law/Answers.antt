use Rattle.schubert_laws.proofs.MonkFromOne.{monk_in}
use Rattle.schubert_laws.proofs.TransitionFromOne.{transition}
use Rattle.schubert_laws.proofs.monk_laws.monk_law.Goals as goal

pub returns-clause-monk : goal.returns-clause-monk
returns-clause-monk c = monk_in

pub returns-clause-transition : goal.returns-clause-transition
returns-clause-transition c = transition
