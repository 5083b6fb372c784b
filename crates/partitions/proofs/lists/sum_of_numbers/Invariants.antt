-- `sum` is the sum of the numbers visited so far, and at most 65535 times their count.
use Rattle.std.proofs.Common.{◌≡◌, ◌≤◌, ◌*◌, take}
use Rattle.sym_model.specs.Partition.{size}
use Rattle.partitions.proofs.lists.sum_of_numbers.Given as goal

abbrev pub invariant-loop-number : goal.invariant-loop-number
invariant-loop-number l = (l.sum ≡ size (take l.number-index l.numbers)) × (l.sum ≤ 65535 * l.number-index)
