use Rattle.schubert_laws.proofs.DualMonkFromOne.{dual_monk_in}
use Rattle.schubert_laws.proofs.dual_monk_laws.dual_monk_law.Goals as goal

pub returns : goal.returns
returns c = record { dual = dual_monk_in }
