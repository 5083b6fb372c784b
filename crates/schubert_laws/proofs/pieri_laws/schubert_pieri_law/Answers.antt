use Rattle.schubert_laws.proofs.ChainLetters.{pieri}
use Rattle.schubert_laws.proofs.pieri_laws.schubert_pieri_law.Goals as goal

pub returns : goal.returns
returns c = record { pieri = pieri }
