use Rattle.std.proofs.Common.{rules}
use Rattle.lr_product.proofs.Partial.{among_at}
use Rattle.lr_product.proofs.factor_product.has_longer.Goals as goal

pub returns-then-rows-k : goal.returns-then-rows-k
returns-then-rows-k c = search (rules, among_at)
