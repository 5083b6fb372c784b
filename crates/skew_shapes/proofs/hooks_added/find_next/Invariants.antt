use Rattle.std.proofs.Common.{◌≡◌, ◌-◌, ◌≤◌}
use Rattle.skew_shapes.specs.AddedHooks.{BeginsFrom, hooks_ending_after}
use Rattle.skew_shapes.proofs.hooks_added.find_next.Given as goal

-- each rim hook that can be added and ends after the initial `hook.last` ends after the present `hook.last`
abbrev pub invariant-loop-hook : goal.invariant-loop-hook
invariant-loop-hook l =
    BeginsFrom l.k l.inner l.hook.first l.hook.last × (l.hook.last ≤ l.most)
    × (hooks_ending_after l.k l.inner l.initial.hook.last ≡ hooks_ending_after l.k l.inner l.hook.last)

abbrev pub decreases-loop-hook : goal.decreases-loop-hook
decreases-loop-hook l = l.most - l.hook.last
