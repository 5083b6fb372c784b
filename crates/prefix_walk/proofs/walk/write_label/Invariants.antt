use Rattle.std.proofs.Common.{◌≡◌, take}
use Rattle.prefix_walk.specs.Levels.{entries_of}
use Rattle.prefix_walk.proofs.walk.write_label.Given as goal

abbrev pub invariant-loop-entry : goal.invariant-loop-entry
invariant-loop-entry g l = l.label.items ≡ entries_of (take l.entry-index l.levels)
