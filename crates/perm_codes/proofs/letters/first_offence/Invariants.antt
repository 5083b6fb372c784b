-- Each letter before the place `at` is one of 1, .., n, where n is the number of letters, and differs from those before it.
use Rattle.std.proofs.Common.{ℕ, ◌<◌}
use Rattle.perm_codes.specs.Limits.{IsNewLetter}
use Rattle.perm_codes.proofs.letters.first_offence.Given as goal

abbrev pub invariant-loop-at : goal.invariant-loop-at
invariant-loop-at l = (k : ℕ) → k < l.at → IsNewLetter l.letters k
