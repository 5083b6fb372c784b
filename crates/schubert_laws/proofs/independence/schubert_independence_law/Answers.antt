use Rattle.schubert_laws.proofs.IndependentSchuberts.{schuberts-independent}
use Rattle.schubert_laws.proofs.independence.schubert_independence_law.Goals as goal

pub returns : goal.returns
returns c = schuberts-independent
