use Rattle.std.proofs.Common.{ℕ, ◌+◌, ◌<◌, ◌≤◌}
use Rattle.sym_model.specs.Permutation.{letter}
use Rattle.transition_walk.proofs.places.last_smaller.Given as goal

-- r < s, and no letter after place s is smaller than the letter at r
abbrev pub invariant-loop-s : goal.invariant-loop-s
invariant-loop-s l = (l.r + 1 ≤ l.s) × ((j : ℕ) → l.s < j → letter l.w l.r ≤ letter l.w j)

abbrev pub decreases-loop-s : goal.decreases-loop-s
decreases-loop-s l = l.s
