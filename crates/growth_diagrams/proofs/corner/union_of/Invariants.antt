use Rattle.std.proofs.Common.{◌≡◌, take}
use Rattle.sym_model.specs.Growth.{union}
use Rattle.growth_diagrams.proofs.corner.union_of.Given as goal

abbrev pub invariant-loop-at : goal.invariant-loop-at
invariant-loop-at l = l.parts.items ≡ take l.at (union l.left l.right)
