use Rattle.std.proofs.Common.{◌∙◌, ap, pos}
use Rattle.linear_combinations.proofs.Steps.{if_answered}
use Rattle.lr_product.proofs.Results.{told}
use Rattle.lr_coefficient.proofs.SameCounts.{same_count, same_meets, same_past, past_same, on_ok}
use Rattle.lr_coefficient.proofs.coefficient.coef.Goals as goal

pub returns-in-Some-2-clause-count : goal.returns-in-Some-2-clause-count
returns-in-Some-2-clause-count c =
    let h = told _ _ _ c.in-Some-2.is c.in_ok-other.ensures.same in
    if_answered c.coef.result c.coef.ensures.count (λ x e. e ∙ ap pos (same_count c.args.outer.now c.args.left.now c.args.right.now c.in-Some-2.other.outer c.in-Some-2.other.left c.in-Some-2.other.right h))

pub returns-in-Some-2-clause-meets : goal.returns-in-Some-2-clause-meets
returns-in-Some-2-clause-meets c =
    let h = told _ _ _ c.in-Some-2.is c.in_ok-other.ensures.same in
    if_answered c.coef.result c.coef.ensures.meets (λ x e. same_meets c.args.outer.now c.args.left.now c.args.right.now c.in-Some-2.other.outer c.in-Some-2.other.left c.in-Some-2.other.right x h e)

pub returns-in-Some-2-clause-large : goal.returns-in-Some-2-clause-large
returns-in-Some-2-clause-large c = λ e.
    let h = told _ _ _ c.in-Some-2.is c.in_ok-other.ensures.same in
    same_past c.args.outer.now c.args.left.now c.args.right.now c.in-Some-2.other.outer c.in-Some-2.other.left c.in-Some-2.other.right h (c.coef.ensures.large e)

pub returns-in-Some-2-clause-fits : goal.returns-in-Some-2-clause-fits
returns-in-Some-2-clause-fits c =
    let h = told _ _ _ c.in-Some-2.is c.in_ok-other.ensures.same in
    on_ok c.coef.result c.coef.ensures.fits (λ none past.
    none (past_same c.args.outer.now c.args.left.now c.args.right.now c.in-Some-2.other.outer c.in-Some-2.other.left c.in-Some-2.other.right h past))
