-- Loop invariant: the cell at each index visited so far is directly below the cell at the index before; `count` is the number of indices visited.
use Rattle.std.proofs.Common.{◌≡◌, ◌+◌}
use Rattle.tableau_iter.specs.Fits.{IsRun}
use Rattle.tableau_iter.proofs.near.cells_below.Given as goal

abbrev pub invariant-loop-next : goal.invariant-loop-next
invariant-loop-next l = record {
  count : l.next ≡ l.place + 1 + l.count;
  run : IsRun l.above l.place l.count;
}
