use Rattle.std.proofs.Common.{◌≤◌, ℕ}
use Rattle.plain_programs.specs.Removed.{HasNoneInRows}
use Rattle.plain_programs.proofs.removals.plain_removal.Given as goal

abbrev pub invariant-loop-first : goal.invariant-loop-first
invariant-loop-first l = (first last : ℕ) → first ≤ l.first → HasNoneInRows l.n l.shape first last
