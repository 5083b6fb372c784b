use Rattle.std.proofs.Common.{rules}
use Rattle.schur_laws.proofs.ProductCounts.{product_exchanged}
use Rattle.linear_combinations.proofs.Steps.{if_answered}
use Rattle.lr_product.proofs.Results.{on_any}
use Rattle.lr_product.proofs.coefficient.count_in.Goals as goal

pub returns-then-in_left-in_right-clause-agrees : goal.returns-then-in_left-in_right-clause-agrees
returns-then-in_left-in_right-clause-agrees c = search (rules, product_exchanged, if_answered)

pub returns-then-in_left-in_right-clause-factors : goal.returns-then-in_left-in_right-clause-factors
returns-then-in_left-in_right-clause-factors c =
    let f = c.count_inside.ensures.factors in on_any c.count_inside.result (f.0, f.2, f.1)
