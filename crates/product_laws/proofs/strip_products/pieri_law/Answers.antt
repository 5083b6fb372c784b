use Rattle.product_laws.proofs.Pieri.{horizontal, vertical}
use Rattle.product_laws.proofs.strip_products.pieri_law.Goals as goal

pub returns-clause-horizontal : goal.returns-clause-horizontal
returns-clause-horizontal c = horizontal

pub returns-clause-vertical : goal.returns-clause-vertical
returns-clause-vertical c = vertical
