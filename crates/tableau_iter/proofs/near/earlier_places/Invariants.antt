-- Loop invariant: the list has the neighbours (`IsNeighbour`) of the cells at the indices visited so far.
use Rattle.std.proofs.Common.{◌≡◌, ℕ, ◌<◌, length, get_or}
use Rattle.tableau_iter.specs.Fits.{IsNeighbour}
use Rattle.tableau_iter.proofs.near.earlier_places.Given as goal

abbrev pub invariant-loop-place : goal.invariant-loop-place
invariant-loop-place l = record {
  places : length l.found.items ≡ l.place;
  are : (p : ℕ) → p < l.place → IsNeighbour l.lines l.ranks p l.down l.left (get_or l.found.items p 0);
}
