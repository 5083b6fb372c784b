use Rattle.std.proofs.Common.{map, drop}
use Rattle.beta_list_laws.specs.AlcoveEnd.{up}
use Rattle.rim_hooks.specs.Sorting.{Sorts}
use Rattle.rim_hooks.proofs.reflections.raised_entries.Given as goal

abbrev pub invariant-loop-at : goal.invariant-loop-at
invariant-loop-at l = Sorts l.sorted (map (up l.n l.start) (drop l.at l.entries))
