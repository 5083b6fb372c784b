-- Loop invariant: the rule allows none of the letters tried so far.
use Rattle.std.proofs.Common.{◌≡◌, ℕ, ◌-◌, ◌<◌, ◌≤◌, false}
use Rattle.tableau_iter.specs.Fits.{allows}
use Rattle.tableau_iter.proofs.rule.next_allowed.Given as goal

abbrev pub invariant-loop-letter : goal.invariant-loop-letter
invariant-loop-letter l = record {
  past : l.from ≤ l.letter;
  none : (b : ℕ) → l.from < b → b ≤ l.letter → allows l.rule l.counts l.sums b ≡ false;
}

abbrev pub decreases-loop-letter : goal.decreases-loop-letter
decreases-loop-letter l = l.to - l.letter
