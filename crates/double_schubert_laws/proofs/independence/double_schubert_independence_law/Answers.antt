use Rattle.double_schubert_laws.proofs.IndependentDoubles.{doubles-independent}
use Rattle.double_schubert_laws.proofs.independence.double_schubert_independence_law.Goals as goal

pub returns : goal.returns
returns c = doubles-independent
