use Rattle.std.proofs.Common.{◌≤◌, take, ℕ}
use Rattle.sym_model.specs.Sum.{Among}
use Rattle.stanley_expand.proofs.blocks.next_end.Given as goal

-- no letter before the place `at` is greater than `greatest`
abbrev pub invariant-loop-at : goal.invariant-loop-at
invariant-loop-at l = record {
  small : (a : ℕ) → Among a (take l.at l.letters) → a ≤ l.greatest;
}
