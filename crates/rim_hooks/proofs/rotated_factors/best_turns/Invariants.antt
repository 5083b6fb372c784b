use Rattle.std.proofs.Common.{◌<◌}
use Rattle.rim_hooks.proofs.rotated_factors.best_turns.Given as goal

abbrev pub invariant-loop-entry : goal.invariant-loop-entry
invariant-loop-entry l = record { small : l.turns < l.n }
