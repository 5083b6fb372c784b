use Rattle.schur_laws.proofs.Coproducts.{coproduct}
use Rattle.schur_laws.proofs.coproduct.coproduct_law.Goals as goal

pub returns : goal.returns
returns c n k shape p = coproduct n k shape p
