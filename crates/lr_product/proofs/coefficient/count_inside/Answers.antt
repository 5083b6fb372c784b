use Rattle.std.proofs.Common.{sym}
use Rattle.lr_product.proofs.Agreeing.{agree_same}
use Rattle.lr_product.proofs.Sums.{counted_shape}
use Rattle.lr_product.proofs.coefficient.count_inside.Goals as goal

pub returns-then-has_no_room-clause-agrees : goal.returns-then-has_no_room-clause-agrees
returns-then-has_no_room-clause-agrees c =
    agree_same _ _ (sym (c.has_no_room.ensures.none c.if-has_no_room.true))

pub returns-clause-agrees : goal.returns-clause-agrees
returns-clause-agrees c =
    let inside = (c.has_no_room.ensures.may c.if-has_no_room.false).inner_inside in
    counted_shape c.count_of.result c.rows-letters.result c.in_ok-table.table.entries
    c.args.outer.now c.parts-parts.result.now c.parts.result.now c.args.inner.now
    c.args.content.now c.rows-letters.ensures.value c.parts-parts.ensures.value
    c.parts.ensures.value
    c.has_no_room.ensures.limits.1.partition c.has_no_room.ensures.limits.2.partition
    c.has_no_room.ensures.limits.0.partition inside c.count_of.ensures.agrees
    c.in_ok-table.ensures.ways
