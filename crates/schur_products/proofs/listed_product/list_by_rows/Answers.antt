use Rattle.std.proofs.Common.{arith}
use Rattle.schur_products.proofs.Exchanged.{if_given}
use Rattle.schur_products.proofs.TwoFactors.{are_two, lists_two}
use Rattle.schur_products.proofs.listed_product.list_by_rows.Goals as goal

pub list_two-requires-clause-sizes : goal.list_two-requires-clause-sizes
list_two-requires-clause-sizes c =
    (are_two c.args.factors.now c.factor_at.result.now c.factor_at-2.result.now
    c.len.ensures.limits (omega (arith, c.len.ensures.value, c.if-len-ne2.false))
    c.factor_at.ensures c.factor_at-2.ensures).sizes

pub list_two-requires-clause-lengths : goal.list_two-requires-clause-lengths
list_two-requires-clause-lengths c =
    (are_two c.args.factors.now c.factor_at.result.now c.factor_at-2.result.now
    c.len.ensures.limits (omega (arith, c.len.ensures.value, c.if-len-ne2.false))
    c.factor_at.ensures c.factor_at-2.ensures).lengths

pub returns : goal.returns
returns c =
    if_given c.list_two.result c.list_two.ensures (λ terms lists.
    lists_two c.args.factors.now c.factor_at.result.now c.factor_at-2.result.now terms
    (are_two c.args.factors.now c.factor_at.result.now c.factor_at-2.result.now
    c.len.ensures.limits (omega (arith, c.len.ensures.value, c.if-len-ne2.false))
    c.factor_at.ensures c.factor_at-2.ensures) lists)
