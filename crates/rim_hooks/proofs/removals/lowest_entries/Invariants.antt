use Rattle.rim_hooks.proofs.LowestEntries.{Lowered}
use Rattle.rim_hooks.proofs.removals.lowest_entries.Given as goal

abbrev pub invariant-loop-at : goal.invariant-loop-at
invariant-loop-at l = Lowered l.n l.entries l.counts l.sorted l.at
