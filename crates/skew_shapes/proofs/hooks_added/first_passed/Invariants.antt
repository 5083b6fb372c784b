use Rattle.std.proofs.Common.{◌-◌, ◌≤◌}
use Rattle.skew_shapes.specs.AddedHooks.{BeginsFrom}
use Rattle.skew_shapes.proofs.hooks_added.first_passed.Given as goal

-- all rows before `first` are too long to be the first row of a rim hook with the last row `hook.last`
abbrev pub invariant-loop-first : goal.invariant-loop-first
invariant-loop-first l = BeginsFrom l.k l.inner l.first l.hook.last × (l.first ≤ l.hook.last)

abbrev pub decreases-loop-first : goal.decreases-loop-first
decreases-loop-first l = l.hook.last - l.first
