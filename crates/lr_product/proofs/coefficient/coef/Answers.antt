use Rattle.std.proofs.Common.{ap, pos, ◌∙◌, rules}
use Rattle.lr_product.proofs.GoodCounts.{coef_past, coef_fits}
use Rattle.lr_product.proofs.Sums.{not_past}
use Rattle.alternant_laws.proofs.CountedTerms.{coef_meets}
use Rattle.linear_combinations.proofs.Steps.{if_answered}
use Rattle.lr_product.proofs.coefficient.coef.Goals as goal

pub returns-clause-count : goal.returns-clause-count
returns-clause-count c = search (rules, if_answered)

pub returns-clause-meets : goal.returns-clause-meets
returns-clause-meets c =
    let f = c.in_ok-count.ensures.factors in
    coef_meets c.args.outer.now c.args.left.now c.args.right.now c.in_ok-coefficient_of.field-0
    f.0 f.1 f.2 (c.in_ok-coefficient_of.ensures.value
    ∙ ap pos (c.in_ok-count.ensures.agrees.below c.in_ok-coefficient_of.ensures.fits))

pub returns-in_err-coefficient_of-clause-large : goal.returns-in_err-coefficient_of-clause-large
returns-in_err-coefficient_of-clause-large c = λ e.
    coef_past c.args.outer.now c.args.left.now c.args.right.now c.in_ok-count.ensures.factors.0 c.in_ok-count.ensures.factors.1 c.in_ok-count.ensures.factors.2
    (c.in_ok-count.ensures.agrees.past c.in_err-coefficient_of.ensures.large)

pub returns-clause-fits : goal.returns-clause-fits
returns-clause-fits c =
    coef_fits c.args.outer.now c.args.left.now c.args.right.now c.in_ok-count.ensures.factors.0 c.in_ok-count.ensures.factors.1 c.in_ok-count.ensures.factors.2
    (not_past _ _ c.in_ok-count.ensures.agrees c.in_ok-coefficient_of.ensures.fits)
