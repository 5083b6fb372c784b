use Rattle.std.proofs.Common.{◌≡◌, ◌++◌, drop}
use Rattle.rotation_laws.specs.Rotation.{kept}
use Rattle.rim_hooks.proofs.rotation.push_kept.Given as goal

-- the numbers, followed by those that the entries not yet visited give, are all
abbrev pub invariant-loop-entry : goal.invariant-loop-entry
invariant-loop-entry l = record {
  numbers : l.numbers.items ++ kept l.n l.r (drop l.entry-index l.entries) ≡ l.fn.numbers.items ++ kept l.n l.r l.entries;
}
