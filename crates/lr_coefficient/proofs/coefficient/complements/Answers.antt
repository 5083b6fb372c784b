use Rattle.std.proofs.Common.{rules, ◌+◌, arith}
use Rattle.lr_coefficient.proofs.SameCounts.{same_made}
use Rattle.lr_coefficient.proofs.coefficient.complements.Goals as goal

pub returns-clause-same : goal.returns-clause-same
returns-clause-same c =
    let a = c.max.ensures in
    let b = c.max-2.ensures in
    let few = c.if-max-k.false in
    let p = c.rows.ensures.value in
    let q = c.rows-2.ensures.value in
    let r = c.rows-3.ensures.value in
    let x = c.part.ensures.value in
    let y = c.part-2.ensures.value in
    let narrow = c.if-part-width.false in
    let w = c.part-else-max-k.ensures.value in
    same_made c.args.k c.part-3.result c.part-4.result (c.part.result + c.part-2.result) c.args.outer.now c.args.left.now c.args.right.now
    c.in-Some.outer c.in-Some-2.left c.in-Some-3.right
    c.rows.ensures.limits.partition c.rows-2.ensures.limits.partition c.rows-3.ensures.limits.partition
    (omega arith) (omega arith) (omega arith)
    (search (rules)) (search (rules)) (let g = c.part-3.ensures.value in let h = c.part-4.ensures.value in omega arith) (omega arith)
    (search (rules)) (search (rules)) (search (rules))
