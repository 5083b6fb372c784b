use Rattle.double_schubert_laws.proofs.Inverses.{inverse_in}
use Rattle.double_schubert_laws.proofs.inverse_laws.double_at_zero_law.Goals as goal

pub returns : goal.returns
returns c = record { inverse = inverse_in }
