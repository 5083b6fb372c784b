use Rattle.std.proofs.Common.{rules}
use Rattle.strip_laws.proofs.Strips.{falls_far}
use Rattle.skew_shapes.proofs.LoneShapes.{part_within}
use Rattle.skew_shapes.proofs.RemovedShapes.{can_remove-tells, last_within}
use Rattle.skew_shapes.proofs.hooks_removed.row_without_hook.Goals as goal

pub overflow_add-result : goal.overflow_add-result
overflow_add-result c = search (rules, part_within)

pub overflow_sub-result-2 : goal.overflow_sub-result-2
overflow_sub-result-2 c = search (rules, can_remove-tells, last_within, falls_far)
