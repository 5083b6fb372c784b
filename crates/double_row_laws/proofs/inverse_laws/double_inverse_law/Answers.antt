use Rattle.double_row_laws.proofs.MirroredDoubles.{inverse_exchanged}
use Rattle.double_row_laws.proofs.inverse_laws.double_inverse_law.Goals as goal

pub returns : goal.returns
returns c = record { inverse = inverse_exchanged }
