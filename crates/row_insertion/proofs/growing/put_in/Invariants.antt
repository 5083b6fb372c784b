use Rattle.std.proofs.Common.{ℕ, ◌<◌, ◌≤◌, ◌≡◌, get_or, length}
use Rattle.row_insertion.proofs.growing.put_in.Given as goal

abbrev pub invariant-loop-at : goal.invariant-loop-at
invariant-loop-at l =
    record {
      same : l.row.items ≡ l.fn.row.items;
      count : length l.row.items ≡ l.at-end;
      passed : (k : ℕ) → k < l.at → get_or l.row.items k 0 ≤ l.letter;
    }
