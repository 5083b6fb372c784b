-- Each part of the inner partition before the current row is at most the part of the outer partition in the same row.
use Rattle.std.proofs.Common.{ℕ, ◌<◌, ◌≤◌, slice_index}
use Rattle.partitions.proofs.partition.Partition.contains.Given as goal

abbrev pub invariant-loop-row : goal.invariant-loop-row
invariant-loop-row l = (k : ℕ) → k < l.row → slice_index l.part-items k ≤ slice_index l.outer k
