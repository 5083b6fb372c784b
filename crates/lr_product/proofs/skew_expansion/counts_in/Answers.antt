use Rattle.std.proofs.Common.{◌≡◌, min, [], subst, ap, ◌∙◌, rules}
use Rattle.sym_model.specs.Partition.{rows}
use Rattle.sym_model.specs.GoodTableau.{skew_count}
use Rattle.linear_combinations.proofs.Steps.{if_answered}
use Rattle.lr_product.specs.Counts.{good_count, HasCounts, IsPastSomewhere}
use Rattle.lr_product.proofs.GoodCounts.{same_skew, lists_in, fits_in, past_in}
use Rattle.lr_product.proofs.skew_expansion.counts_in.Goals as goal
use Rattle.std.proofs.lemmas.Result.{on_ok_weaker}

pub returns-clause-counts : goal.returns-clause-counts
returns-clause-counts c =
    let n : c.min-letters.result ≡ min c.args.variables (rows c.args.outer.now) =
    c.min-letters.ensures ∙ ap (min c.args.variables) c.rows.ensures.value in
    let same = same_skew c.min-letters.result c.args.variables c.args.outer.now c.args.inner.now n
    c.rows.ensures.limits.partition c.parts.ensures.limits.partition c.requires.inside in
    if_answered c.good_counts.result c.good_counts.ensures.counts
    (λ terms l. lists_in c.min-letters.result c.args.variables
    (good_count c.min-letters.result [] c.args.outer.now c.args.inner.now)
    (skew_count c.args.outer.now c.args.inner.now) terms same
    (subst (λ s. HasCounts c.min-letters.result (good_count c.min-letters.result [] c.args.outer.now
    s) terms) c.parts.ensures.value l))

pub returns-clause-fits : goal.returns-clause-fits
returns-clause-fits c = search (rules, same_skew, on_ok_weaker, fits_in)

pub returns-clause-large : goal.returns-clause-large
returns-clause-large c = λ e.
    let n : c.min-letters.result ≡ min c.args.variables (rows c.args.outer.now) =
    c.min-letters.ensures ∙ ap (min c.args.variables) c.rows.ensures.value in
    let same = same_skew c.min-letters.result c.args.variables c.args.outer.now c.args.inner.now n
    c.rows.ensures.limits.partition c.parts.ensures.limits.partition c.requires.inside in
    past_in c.min-letters.result c.args.variables
    (good_count c.min-letters.result [] c.args.outer.now c.args.inner.now)
    (skew_count c.args.outer.now c.args.inner.now) same
    (subst (λ s. IsPastSomewhere c.min-letters.result
    (good_count c.min-letters.result [] c.args.outer.now s)) c.parts.ensures.value
    (c.good_counts.ensures.large e))
