use Rattle.std.proofs.Common.{◌-◌, ◌≤◌}
use Rattle.skew_shapes.specs.RemovedHooks.{EndsUpTo}
use Rattle.skew_shapes.proofs.hooks_removed.last_passed.Given as goal

-- all rows after `last` are too short to be the last row of a rim hook with the first row `hook.first`
abbrev pub invariant-loop-last : goal.invariant-loop-last
invariant-loop-last l = EndsUpTo l.k l.outer l.hook.first l.last × (l.hook.first ≤ l.last)

abbrev pub decreases-loop-last : goal.decreases-loop-last
decreases-loop-last l = l.last - l.hook.first
