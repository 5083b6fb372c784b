use Rattle.std.proofs.Common.{drop}
use Rattle.rim_hooks.specs.Turns.{AreTurned}
use Rattle.rim_hooks.proofs.reflections.turns_of.Given as goal

abbrev pub invariant-loop-at : goal.invariant-loop-at
invariant-loop-at l = AreTurned l.n l.counts (drop l.at l.entries) l.turns
