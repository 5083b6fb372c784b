use Rattle.std.proofs.Common.{ap, pos, ◌∙◌}
use Rattle.lr_product.proofs.GoodCounts.{coef_past, coef_fits}
use Rattle.lr_product.proofs.Results.{told}
use Rattle.lr_product.proofs.Sums.{not_past}
use Rattle.alternant_laws.proofs.CountedTerms.{coef_meets}
use Rattle.lr_product.proofs.coefficient.coef_by_rows.Goals as goal

pub returns-clause-count : goal.returns-clause-count
returns-clause-count c =
    let agree = told _ _ _ c.in-Some.is c.in_ok-count.ensures.agrees in
    c.in_ok-coefficient_of.ensures.value ∙ ap pos (agree.below c.in_ok-coefficient_of.ensures.fits)

pub returns-clause-meets : goal.returns-clause-meets
returns-clause-meets c =
    let agree = told _ _ _ c.in-Some.is c.in_ok-count.ensures.agrees in
    let f = c.in_ok-count.ensures.factors in
    coef_meets c.args.outer.now c.args.left.now c.args.right.now c.in_ok-coefficient_of.field-0
    f.0 f.1 f.2 (c.in_ok-coefficient_of.ensures.value
    ∙ ap pos (agree.below c.in_ok-coefficient_of.ensures.fits))

pub returns-in_err-coefficient_of-clause-large : goal.returns-in_err-coefficient_of-clause-large
returns-in_err-coefficient_of-clause-large c = λ e.
    let agree = told _ _ _ c.in-Some.is c.in_ok-count.ensures.agrees in
    let f = c.in_ok-count.ensures.factors in
    coef_past c.args.outer.now c.args.left.now c.args.right.now f.0 f.1 f.2
    (agree.past c.in_err-coefficient_of.ensures.large)

pub returns-clause-fits : goal.returns-clause-fits
returns-clause-fits c =
    let agree = told _ _ _ c.in-Some.is c.in_ok-count.ensures.agrees in
    let f = c.in_ok-count.ensures.factors in
    coef_fits c.args.outer.now c.args.left.now c.args.right.now f.0 f.1 f.2
    (not_past _ _ agree c.in_ok-coefficient_of.ensures.fits)
