-- Loop invariant: no index tried so far has the cell that is `down` rows above and `left` columns right of the cell at `place`.
use Rattle.std.proofs.Common.{◌≡◌, ℕ, ◌+◌, ◌<◌, ◌≤◌, ◌==◌, ◌&&◌, false, get_or}
use Rattle.tableau_iter.proofs.near.earlier_place.Given as goal

abbrev pub invariant-loop-at : goal.invariant-loop-at
invariant-loop-at l = record {
  within : l.at ≤ l.place;
  none :
      (q : ℕ) → l.at ≤ q → q < l.place
      → ((get_or l.lines q 0 + l.down == get_or l.lines l.place 0) && (get_or l.ranks q 0 == get_or l.ranks l.place 0 + l.left)) ≡ false;
}

abbrev pub decreases-loop-at : goal.decreases-loop-at
decreases-loop-at l = l.at
