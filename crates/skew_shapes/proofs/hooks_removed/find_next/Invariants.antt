use Rattle.std.proofs.Common.{◌≡◌, ◌-◌}
use Rattle.skew_shapes.specs.RemovedHooks.{EndsUpTo, hooks_beginning_within}
use Rattle.skew_shapes.proofs.hooks_removed.find_next.Given as goal

-- each rim hook that can be removed and begins before the initial `hook.first` begins before the present `hook.first`
abbrev pub invariant-loop-hook : goal.invariant-loop-hook
invariant-loop-hook l =
    EndsUpTo l.k l.outer l.hook.first l.hook.last
    × (hooks_beginning_within l.k l.outer (l.initial.hook.first - 1) ≡ hooks_beginning_within l.k l.outer (l.hook.first - 1))

abbrev pub decreases-loop-hook : goal.decreases-loop-hook
decreases-loop-hook l = l.hook.first
