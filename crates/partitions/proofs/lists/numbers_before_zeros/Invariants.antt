-- The numbers from `len` on are zeros.
use Rattle.std.proofs.Common.{◌≡◌, ◌≤◌, length, take}
use Rattle.sym_model.specs.Partition.{without_last_zeros}
use Rattle.partitions.proofs.lists.numbers_before_zeros.Given as goal

abbrev pub invariant-loop-len : goal.invariant-loop-len
invariant-loop-len l =
    (l.len ≤ length l.numbers) × (without_last_zeros (take l.len l.numbers) ≡ without_last_zeros l.numbers)

abbrev pub decreases-loop-len : goal.decreases-loop-len
decreases-loop-len l = l.len
