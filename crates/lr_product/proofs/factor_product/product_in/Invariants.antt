use Rattle.std.proofs.Common.{take}
use Rattle.lr_product.proofs.Partial.{IsPartial}
use Rattle.lr_product.proofs.factor_product.product_in.Given as goal

-- the list is the product of the factors visited so far (`IsPartial`)
abbrev pub invariant-loop-at : goal.invariant-loop-at
invariant-loop-at l = IsPartial l.variables (take l.at l.factors) l.product
