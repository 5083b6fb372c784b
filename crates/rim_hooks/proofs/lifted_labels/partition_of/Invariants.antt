-- The list has the entries visited so far, each minus the number of entries after it, and `later` is the number of entries not yet visited.
use Rattle.std.proofs.Common.{◌≡◌, ◌-◌, ◌++◌, length, drop}
use Rattle.sym_model.specs.BetaList.{less_the_rest}
use Rattle.rim_hooks.proofs.lifted_labels.partition_of.Given as goal

abbrev pub invariant-loop-entry : goal.invariant-loop-entry
invariant-loop-entry l = record {
  numbers : l.parts.items ++ less_the_rest (drop l.entry-index l.entries) ≡ less_the_rest l.entries;
  left : l.later ≡ length l.entries - l.entry-index;
}
