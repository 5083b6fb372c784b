use Rattle.std.proofs.Common.{◌+◌, ◌-◌}
use Rattle.sym_model.specs.Partition.{size}
use Rattle.rim_hooks.proofs.AlcoveFacts.{Window}
use Rattle.rim_hooks.proofs.reflections.window_start.Given as goal

abbrev pub invariant-loop-left : goal.invariant-loop-left
invariant-loop-left l = Window l.n l.entries l.start l.left

abbrev pub decreases-loop-left : goal.decreases-loop-left
decreases-loop-left l = size l.entries + 1 - l.start
