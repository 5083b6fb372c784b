-- Loop invariant: for each index visited so far, the list has a bound for the letter at this index (`IsGreatest`): the greatest letter, decreased by
-- a number of cells directly below in the same column.
use Rattle.std.proofs.Common.{◌≡◌, ℕ, ◌<◌, length, get_or}
use Rattle.tableau_iter.specs.Fits.{IsGreatest}
use Rattle.tableau_iter.proofs.near.greatest_letters.Given as goal

abbrev pub invariant-loop-place : goal.invariant-loop-place
invariant-loop-place l = record {
  places : length l.most.items ≡ l.place;
  are : (p : ℕ) → p < l.place → IsGreatest l.letters l.above p (get_or l.most.items p 0);
}
