use Rattle.std.proofs.Common.{subst}
use Rattle.lr_coefficient.specs.SameCoefficient.{HasSameCoefficient}
use Rattle.lr_product.proofs.Results.{told}
use Rattle.lr_coefficient.proofs.SameCounts.{same-twice}
use Rattle.lr_coefficient.proofs.coefficient.fastest.Goals as goal

pub returns-then-branch-clause-same : goal.returns-then-branch-clause-same
returns-then-branch-clause-same c =
    subst (λ k. HasSameCoefficient k c.args.outer.now c.args.left.now c.args.right.now c.in-Some.once.outer c.in-Some.once.left c.in-Some.once.right)
    c.rows-k.ensures.value (told _ _ _ c.in-Some.is c.in_ok-once.ensures.same)

pub returns-clause-same : goal.returns-clause-same
returns-clause-same c =
    subst (λ k. HasSameCoefficient k c.args.outer.now c.args.left.now c.args.right.now c.in-Some-2.twice.outer c.in-Some-2.twice.left c.in-Some-2.twice.right)
    c.rows-k.ensures.value
    (same-twice c.rows-k.result c.args.outer.now c.args.left.now c.args.right.now c.in-Some.once.outer c.in-Some.once.left c.in-Some.once.right
    c.in-Some-2.twice.outer c.in-Some-2.twice.left c.in-Some-2.twice.right
    (told _ _ _ c.in-Some.is c.in_ok-once.ensures.same) (told _ _ _ c.in-Some-2.is c.in_ok-twice.ensures.same))
