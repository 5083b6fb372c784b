use Rattle.std.proofs.Common.{◌≡◌, ◌++◌}
use Rattle.std.specs.Vec.Iter.{into_iter_items}
use Rattle.sparse_polys.specs.Tables.{IsFractionTable}
use Rattle.sparse_polys.proofs.Quotients.{Quotients}
use Rattle.beta_sets.specs.BetaSets.{shapes}
use Rattle.beta_sets.proofs.beta_set.in_partitions.Given as goal

-- the table has, at the partition of each term visited so far, the coefficient of the term divided by `den`; the terms visited, followed by those not
-- yet visited, are all terms
abbrev pub invariant-loop-set : goal.invariant-loop-set
invariant-loop-set l = record {
  quotients : Quotients l.den l.answer (shapes l.yielded);
  table : IsFractionTable l.answer;
  so_far : l.yielded ++ into_iter_items l.set-iterator ≡ into_iter_items l.initial.set-iterator;
}
