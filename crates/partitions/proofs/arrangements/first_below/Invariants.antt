-- Each number from the index `start` to the index before `at` is at least `bound`.
use Rattle.std.proofs.Common.{ℕ, ◌-◌, ◌<◌, ◌≤◌, length, get_or}
use Rattle.partitions.proofs.arrangements.first_below.Given as goal

abbrev pub invariant-loop-at : goal.invariant-loop-at
invariant-loop-at l = record {
  start : l.start ≤ l.at;
  within : l.at < length l.numbers;
  before : (k : ℕ) → l.start ≤ k → k < l.at → l.bound ≤ get_or l.numbers k 0;
}

abbrev pub decreases-loop-at : goal.decreases-loop-at
decreases-loop-at l = length l.numbers - l.at
