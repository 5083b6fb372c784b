use Rattle.std.proofs.Common.{◌≡◌, ℕ, ◌<◌, length, get_or}
use Rattle.plain_programs.specs.Removed.{left_part}
use Rattle.plain_programs.proofs.removals.left_rows.Given as goal

abbrev pub invariant-loop-i : goal.invariant-loop-i
invariant-loop-i l = record {
  many : length l.left.items ≡ l.i;
  rows : (k : ℕ) → k < l.i → get_or l.left.items k 0 ≡ left_part l.shape l.first l.last l.rest k;
}
