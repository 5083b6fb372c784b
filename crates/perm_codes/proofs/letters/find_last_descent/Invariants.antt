-- No letter from the current place on is greater than the next.
use Rattle.std.proofs.Common.{◌<◌, length}
use Rattle.perm_codes.proofs.Descents.{RisesAfter}
use Rattle.perm_codes.proofs.letters.find_last_descent.Given as goal

abbrev pub invariant-loop-i : goal.invariant-loop-i
invariant-loop-i l = (l.i < length l.letters) × RisesAfter l.i l.letters

abbrev pub decreases-loop-i : goal.decreases-loop-i
decreases-loop-i l = l.i
