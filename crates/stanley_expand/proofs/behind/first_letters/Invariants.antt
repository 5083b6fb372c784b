use Rattle.std.proofs.Common.{◌≡◌}
use Rattle.sym_model.specs.Partition.{after}
use Rattle.stanley_expand.proofs.behind.first_letters.Given as goal

-- the list has the letters from 1 to `at`
abbrev pub invariant-loop-at : goal.invariant-loop-at
invariant-loop-at l = l.letters.items ≡ after 0 l.at
