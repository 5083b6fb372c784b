use Rattle.std.proofs.Common.{arith}
use Rattle.lr_product.proofs.table.capped.Goals as goal

pub returns-clause-capped : goal.returns-clause-capped
returns-clause-capped c = record { below = λ h. omega arith; past = λ h. omega arith }
