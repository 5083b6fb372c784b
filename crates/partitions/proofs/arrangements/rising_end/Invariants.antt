-- The numbers from `at` on are weakly increasing.
use Rattle.std.proofs.Common.{◌<◌, length, drop}
use Rattle.partitions.specs.Arranging.{Rises}
use Rattle.partitions.proofs.arrangements.rising_end.Given as goal

abbrev pub invariant-loop-at : goal.invariant-loop-at
invariant-loop-at l = (0 < l.at → l.at < length l.numbers) × Rises (drop l.at l.numbers)

abbrev pub decreases-loop-at : goal.decreases-loop-at
decreases-loop-at l = l.at
