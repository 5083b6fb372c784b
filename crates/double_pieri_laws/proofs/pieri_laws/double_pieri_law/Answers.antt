use Rattle.double_pieri_laws.proofs.DoublePieriLaw.{double_pieri}
use Rattle.double_pieri_laws.proofs.pieri_laws.double_pieri_law.Goals as goal

pub returns : goal.returns
returns c = record { pieri = double_pieri }
