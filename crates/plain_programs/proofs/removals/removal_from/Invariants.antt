use Rattle.std.proofs.Common.{◌+◌, ◌≤◌, ℕ}
use Rattle.plain_programs.specs.Removed.{HasNoneInRows}
use Rattle.plain_programs.proofs.removals.removal_from.Given as goal

abbrev pub invariant-loop-last : goal.invariant-loop-last
invariant-loop-last l = (last : ℕ) → last ≤ l.last → HasNoneInRows l.n l.shape (l.first + 1) last
