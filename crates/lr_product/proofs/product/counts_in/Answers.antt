use Rattle.std.proofs.Common.{rules}
use Rattle.linear_combinations.proofs.Steps.{if_answered}
use Rattle.lr_product.proofs.ExchangedFactors.{exchanged, counts_exchanged, past_exchanged}
use Rattle.lr_product.proofs.product.counts_in.Goals as goal
use Rattle.std.proofs.lemmas.Result.{on_ok_weaker}

pub returns-then-size-clause-counts : goal.returns-then-size-clause-counts
returns-then-size-clause-counts c = search (rules, if_answered, counts_exchanged)

pub returns-then-size-clause-fits : goal.returns-then-size-clause-fits
returns-then-size-clause-fits c = search (rules, on_ok_weaker, exchanged)

pub returns-then-size-clause-large : goal.returns-then-size-clause-large
returns-then-size-clause-large c = search (rules, past_exchanged)

pub returns-then-size-clause-factors : goal.returns-then-size-clause-factors
returns-then-size-clause-factors c =
    (c.counts_from.ensures.factors.1, c.counts_from.ensures.factors.0)
