-- Loop invariant: the numbers written so far are the parts of the partition `start`, followed by zeros.
use Rattle.std.proofs.Common.{◌≡◌, ℕ, ◌<◌, length, get_or}
use Rattle.tableau_iter.proofs.board.start_sums.Given as goal

abbrev pub invariant-loop-at : goal.invariant-loop-at
invariant-loop-at l = record {
  places : length l.sums.items ≡ l.at;
  are : (k : ℕ) → k < l.at → get_or l.sums.items k 0 ≡ get_or l.start k 0;
}
