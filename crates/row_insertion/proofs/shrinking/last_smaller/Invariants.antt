use Rattle.std.proofs.Common.{◌<◌, ◌≤◌, ℕ, get_or}
use Rattle.row_insertion.proofs.shrinking.last_smaller.Given as goal

abbrev pub invariant-loop-place : goal.invariant-loop-place
invariant-loop-place l = (k : ℕ) → 1 ≤ k → k < l.place → get_or l.row k 0 < l.letter
