use Rattle.std.proofs.Common.{◌≡◌, ℕ, ◌-◌, ◌<◌, ◌≤◌, get_or}
use Rattle.stanley_expand.proofs.GreaterBefore.{before}
use Rattle.stanley_expand.proofs.letters.has_more_before.Given as goal

-- no letter before the place `at` has more than `most` greater letters before it; `last` is the letter just before `at`
abbrev pub invariant-loop-at : goal.invariant-loop-at
invariant-loop-at l = record {
  few : (p : ℕ) → p < l.at → before l.letters p ≤ l.most;
  last : 0 < l.at → l.last ≡ get_or l.letters (l.at - 1) 0;
}
