use Rattle.std.proofs.Common.{sym, subst}
use Rattle.std.specs.Prelude.{IfOk, IfSome}
use Rattle.schur_laws.proofs.ProductCounts.{product_exchanged}
use Rattle.lr_product.specs.Capped.{Agree}
use Rattle.lr_product.proofs.Agreeing.{agree_same}
use Rattle.lr_product.proofs.coefficient.count_within.Goals as goal

pub returns-then-has_no_room-clause-agrees : goal.returns-then-has_no_room-clause-agrees
returns-then-has_no_room-clause-agrees c =
    agree_same _ _ (sym (c.has_no_room.ensures.none c.if-has_no_room.true))

pub returns-then-by_left-by_right-clause-agrees : goal.returns-then-by_left-by_right-clause-agrees
returns-then-by_left-by_right-clause-agrees c =
    let f = c.has_no_room.ensures.limits in
    subst (λ n. IfOk c.count_in_rows.result (λ o. IfSome o (λ count. Agree count n)))
    (product_exchanged c.args.right.now c.args.left.now c.args.outer.now f.2.partition f.1.partition
    f.0.partition) c.count_in_rows.ensures.agrees
