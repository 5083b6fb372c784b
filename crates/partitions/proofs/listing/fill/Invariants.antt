-- The parts written so far, followed by the lexicographically greatest partition of the number that is left, are the lexicographically greatest
-- partition of the number at the start.
use Rattle.std.proofs.Common.{◌≡◌, ◌+◌, ◌-◌, ◌<◌, ◌≤◌, ◌++◌, length, take}
use Rattle.partitions.specs.Listing.{greatest_within}
use Rattle.partitions.proofs.listing.fill.Given as goal

abbrev pub invariant-loop-left : goal.invariant-loop-left
invariant-loop-left l =
    (l.at + l.left ≤ length l.buffer) × (0 < l.left → 0 < l.part)
    × (take l.at l.buffer ++ greatest_within l.left l.part (length l.buffer - l.at)
    ≡ take l.fn.start l.fn.buffer ++ greatest_within l.fn.left l.fn.most (length l.fn.buffer - l.fn.start))

abbrev pub decreases-loop-left : goal.decreases-loop-left
decreases-loop-left l = l.left
