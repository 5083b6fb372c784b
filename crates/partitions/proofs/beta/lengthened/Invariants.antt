-- The list `entries` has the first `i` entries of the beta list.
use Rattle.std.proofs.Common.{◌≡◌, ◌+◌, ◌-◌, map}
use Rattle.sym_model.specs.Partition.{part, after}
use Rattle.partitions.proofs.beta.lengthened.Given as goal

abbrev pub invariant-loop-i : goal.invariant-loop-i
invariant-loop-i l = l.entries.items ≡ map (λ i. part l.parts i + (l.k - i)) (after 0 l.i)
