use Rattle.std.proofs.Common.{◌≡◌, ◌∙◌, ap, max, map, rules}
use Rattle.std.specs.Option.{unwrap_or}
use Rattle.sym_model.specs.Partition.{size, rows}
use Rattle.linear_combinations.proofs.Steps.{if_answered}
use Rattle.lr_product.proofs.Results.{on_any}
use Rattle.lr_product.proofs.PastCoefficients.{past_factors, small_factors}
use Rattle.lr_product.proofs.NothingLeft.{nothing_meets, nothing_classical, nothing_fits, classical_given}
use Rattle.lr_product.proofs.factor_product.mult_all.Goals as goal
use Rattle.std.proofs.lemmas.Result.{on_ok_weaker}

pub returns-then-has_longer-clause-meets : goal.returns-then-has_longer-clause-meets
returns-then-has_longer-clause-meets c = search (rules, if_answered, nothing_meets)

pub returns-then-has_longer-clause-fits : goal.returns-then-has_longer-clause-fits
returns-then-has_longer-clause-fits c =
    let e : c.unwrap_or-variables.result ≡ unwrap_or c.args.rows
    (max (size (map rows c.args.factors.now)) 1) =
    c.unwrap_or-variables.ensures ∙ ap (unwrap_or c.args.rows)
    (c.max.ensures ∙ ap (λ n. max n 1) c.rows.ensures.value) in
    on_any c.no_terms.result
    (nothing_fits c.args.rows c.unwrap_or-variables.result c.args.factors.now e
    c.rows.ensures.limits.small.partitions (c.has_longer.ensures.0 c.if-has_longer.true))

pub returns-clause-large : goal.returns-clause-large
returns-clause-large c = λ err.
    let e : c.unwrap_or-variables.result ≡ unwrap_or c.args.rows
    (max (size (map rows c.args.factors.now)) 1) =
    c.unwrap_or-variables.ensures ∙ ap (unwrap_or c.args.rows)
    (c.max.ensures ∙ ap (λ n. max n 1) c.rows.ensures.value) in
    past_factors c.args.rows c.unwrap_or-variables.result c.args.factors.now c.rows.ensures.limits e
    (c.product_in.ensures.large err)

pub returns-clause-fits : goal.returns-clause-fits
returns-clause-fits c =
    let e : c.unwrap_or-variables.result ≡ unwrap_or c.args.rows
    (max (size (map rows c.args.factors.now)) 1) =
    c.unwrap_or-variables.ensures ∙ ap (unwrap_or c.args.rows)
    (c.max.ensures ∙ ap (λ n. max n 1) c.rows.ensures.value) in
    on_ok_weaker c.product_in.result (small_factors c.args.rows c.unwrap_or-variables.result c.args.factors.now
    c.rows.ensures.limits e) c.product_in.ensures.small

pub returns-then-has_longer-clause-classical : goal.returns-then-has_longer-clause-classical
returns-then-has_longer-clause-classical c = search (rules, if_answered, nothing_classical)

pub returns-clause-classical : goal.returns-clause-classical
returns-clause-classical c =
    if_answered c.product_in.result c.product_in.ensures.classical
    (λ terms same. classical_given c.args.rows c.unwrap_or-variables.result c.max.result
    c.args.factors.now terms c.unwrap_or-variables.ensures same)
