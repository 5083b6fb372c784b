-- No entry before the current place is greater than the number of entries after it.
use Rattle.std.proofs.Common.{ℕ, ◌+◌, ◌<◌, ◌≤◌, length, slice_index}
use Rattle.perm_codes.proofs.letters.first_excess.Given as goal

abbrev pub invariant-loop-at : goal.invariant-loop-at
invariant-loop-at l = (k : ℕ) → k < l.at → slice_index l.code k + k + 1 ≤ length l.code
