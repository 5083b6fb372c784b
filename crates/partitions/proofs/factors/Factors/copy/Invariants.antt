use Rattle.std.proofs.Common.{◌≡◌, take}
use Rattle.partitions.proofs.factors.Factors.copy.Given as goal

abbrev pub invariant-loop-factor : goal.invariant-loop-factor
invariant-loop-factor l = l.factors.items ≡ take l.factor-index l.self-inside.factors.items
