use Rattle.std.proofs.Common.{◌≡◌, ◌++◌, length}
use Rattle.beta_sets.specs.BetaSets.{numbers, shape}
use Rattle.beta_sets.proofs.beta_set.BetaSet.partition.Given as goal

abbrev pub decreases-loop-number : goal.decreases-loop-number
decreases-loop-number l = l.rows

-- the parts listed so far, followed by the parts that the numbers not yet visited give, are the partition of the set
abbrev pub invariant-loop-number : goal.invariant-loop-number
invariant-loop-number l = record {
  all : l.parts.items ++ shape l.rest ≡ shape l.fn.self;
  rows : l.rows ≡ length (numbers l.rest);
}
