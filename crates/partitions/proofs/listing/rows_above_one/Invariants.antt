-- All parts from `rows` on are 1.
use Rattle.std.proofs.Common.{◌≤◌, length, drop}
use Rattle.partitions.specs.Listing.{AreOnes}
use Rattle.partitions.proofs.listing.rows_above_one.Given as goal

abbrev pub invariant-loop-rows : goal.invariant-loop-rows
invariant-loop-rows l = (l.rows ≤ length l.parts) × AreOnes (drop l.rows l.parts)

abbrev pub decreases-loop-rows : goal.decreases-loop-rows
decreases-loop-rows l = l.rows
