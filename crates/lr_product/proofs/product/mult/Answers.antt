use Rattle.std.proofs.Common.{◌≡◌, ◌+◌, ◌∙◌, ap, ap₂, rules}
use Rattle.std.specs.Option.{unwrap_or}
use Rattle.sym_model.specs.Partition.{rows}
use Rattle.linear_combinations.proofs.Steps.{if_answered}
use Rattle.lr_product.proofs.GoodCounts.{mult_counts, mult_answers, mult_past, mult_fits}
use Rattle.lr_product.proofs.GoodCounts.{classical_if, heavy_if}
use Rattle.lr_product.proofs.product.mult.Goals as goal
use Rattle.std.proofs.lemmas.Result.{on_ok_weaker}

pub returns-clause-meets : goal.returns-clause-meets
returns-clause-meets c = search (rules, if_answered, mult_answers)

pub returns-clause-counts : goal.returns-clause-counts
returns-clause-counts c =
    let m : c.unwrap_or-variables.result ≡ unwrap_or c.args.rows
    (rows c.args.left.now + rows c.args.right.now) = c.unwrap_or-variables.ensures
    ∙ ap (unwrap_or c.args.rows) (ap₂ ◌+◌ c.rows.ensures.value c.rows-2.ensures.value) in
    if_answered c.counts_in.result c.counts_in.ensures.counts
    (λ terms l. mult_counts c.args.rows c.unwrap_or-variables.result c.args.left.now
    c.args.right.now terms m l)

pub returns-clause-large : goal.returns-clause-large
returns-clause-large c = search (rules, mult_past)

pub returns-clause-fits : goal.returns-clause-fits
returns-clause-fits c =
    let m : c.unwrap_or-variables.result ≡ unwrap_or c.args.rows
    (rows c.args.left.now + rows c.args.right.now) = c.unwrap_or-variables.ensures
    ∙ ap (unwrap_or c.args.rows) (ap₂ ◌+◌ c.rows.ensures.value c.rows-2.ensures.value) in
    on_ok_weaker c.counts_in.result (mult_fits c.args.rows c.unwrap_or-variables.result c.args.left.now c.args.right.now m
    c.counts_in.ensures.factors.0 c.counts_in.ensures.factors.1) c.counts_in.ensures.fits

pub returns-clause-classical : goal.returns-clause-classical
returns-clause-classical c = search (rules, if_answered, classical_if)

pub returns-clause-heavy : goal.returns-clause-heavy
returns-clause-heavy c = search (rules, heavy_if)
