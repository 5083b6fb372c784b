use Rattle.rotation_laws.proofs.FusionTurns.{product_lifted}
use Rattle.rotation_laws.proofs.Lifts.{fusion_lifted}
use Rattle.rotation_laws.proofs.fusion.fusion_lifting_law.Goals as goal

pub returns-clause-products : goal.returns-clause-products
returns-clause-products c = fusion_lifted

pub returns-clause-factor : goal.returns-clause-factor
returns-clause-factor c = product_lifted
