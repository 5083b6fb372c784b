use Rattle.std.proofs.Common.{◌-◌, arith}
use Rattle.skew_shapes.proofs.LoneShapes.{part_within}
use Rattle.skew_shapes.proofs.hooks_added.row_with_hook.Goals as goal

pub overflow_add-result : goal.overflow_add-result
overflow_add-result c = let p = part_within c.args.inner.now c.args.hook.last in omega arith

pub overflow_add-result-2 : goal.overflow_add-result-2
overflow_add-result-2 c = let p = part_within c.args.inner.now (c.args.row - 1) in omega arith
