use Rattle.std.proofs.Common.{◌≡◌, true, subst, sym, ap, ◌∙◌, rules}
use Rattle.std.specs.Option.{unwrap_or}
use Rattle.sym_model.specs.Partition.{rows}
use Rattle.sym_model.specs.WholeTerms.{as_fractions}
use Rattle.sym_model.specs.Products.{ExpandsInSchurs}
use Rattle.sym_model.specs.Schur.{skew_schur}
use Rattle.linear_combinations.proofs.Steps.{if_answered}
use Rattle.strip_laws.proofs.Containment.{contains-from, contains-tells}
use Rattle.lr_product.proofs.GoodCounts.{contains-false, skew_counted, outside_answers}
use Rattle.lr_product.proofs.GoodCounts.{outside_fits, skew_answers, skew_past, skew_fits}
use Rattle.lr_product.proofs.Results.{on_any}
use Rattle.lr_product.proofs.skew_expansion.skew.Goals as goal
use Rattle.std.proofs.lemmas.Result.{on_ok_weaker}

pub returns-then-not-contains-clause-meets : goal.returns-then-not-contains-clause-meets
returns-then-not-contains-clause-meets c =
    let outside = contains-false c.args.outer.now c.args.inner.now (λ h. let yes : c.contains.result
    ≡ true = c.contains.ensures.1 h in absurd (cc)) in
    if_answered c.no_terms.result c.no_terms.ensures.none
    (λ terms e. subst (λ ts. ExpandsInSchurs c.args.rows (skew_schur c.args.outer.now c.args.inner.now) (as_fractions ts)) (sym e) (outside_answers c.args.rows c.args.outer.now
    c.args.inner.now outside))

pub returns-then-not-contains-clause-counts : goal.returns-then-not-contains-clause-counts
returns-then-not-contains-clause-counts c holds = search (rules, contains-tells)

pub returns-then-not-contains-clause-fits : goal.returns-then-not-contains-clause-fits
returns-then-not-contains-clause-fits c =
    let outside = contains-false c.args.outer.now c.args.inner.now (λ h. let yes : c.contains.result
    ≡ true = c.contains.ensures.1 h in absurd (cc)) in
    on_any c.no_terms.result (outside_fits c.args.rows c.args.outer.now c.args.inner.now outside)

pub counts_in-requires-clause-inside : goal.counts_in-requires-clause-inside
counts_in-requires-clause-inside c =
    contains-from c.args.outer.now c.args.inner.now (c.contains.ensures.0 (cc))

pub returns-clause-meets : goal.returns-clause-meets
returns-clause-meets c = search (rules, contains-from, if_answered, skew_answers)

pub returns-clause-counts : goal.returns-clause-counts
returns-clause-counts c holds =
    let m : c.unwrap_or-variables.result ≡ unwrap_or c.args.rows (rows c.args.outer.now) =
    c.unwrap_or-variables.ensures ∙ ap (unwrap_or c.args.rows) c.rows.ensures.value in
    if_answered c.counts_in.result c.counts_in.ensures.counts
    (λ terms l. skew_counted c.args.rows c.unwrap_or-variables.result c.args.outer.now
    c.args.inner.now terms m l)

pub returns-clause-large : goal.returns-clause-large
returns-clause-large c = search (rules, contains-from, skew_past)

pub returns-clause-fits : goal.returns-clause-fits
returns-clause-fits c =
    let m : c.unwrap_or-variables.result ≡ unwrap_or c.args.rows (rows c.args.outer.now) =
    c.unwrap_or-variables.ensures ∙ ap (unwrap_or c.args.rows) c.rows.ensures.value in
    let yes : c.contains.result ≡ true = cc in
    let inside = contains-from c.args.outer.now c.args.inner.now (c.contains.ensures.0 yes) in
    on_ok_weaker c.counts_in.result (skew_fits c.args.rows c.unwrap_or-variables.result c.args.outer.now c.args.inner.now m
    c.counts_in.ensures.shape.0 c.counts_in.ensures.shape.1 inside) c.counts_in.ensures.fits
