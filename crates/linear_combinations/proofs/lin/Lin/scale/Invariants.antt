use Rattle.std.proofs.Common.{◌≡◌, List, ◌++◌, length}
use Rattle.linear_combinations.proofs.Multiples.{Relates, IsProduct}
use Rattle.linear_combinations.proofs.lin.Lin.scale.Given as goal

-- the scalars of the pairs before the index `at` have been multiplied by c, and the pairs from this index on are unchanged
abbrev pub invariant-loop-at : goal.invariant-loop-at
invariant-loop-at g l = (before done rest : List (g.row.L.Denot × g.row.R.Denot)) × record {
  was : before ++ rest ≡ l.initial.table.entries;
  now : l.table.entries ≡ done ++ rest;
  products : Relates (IsProduct g.R.Scalar.is_held g.R.Scalar.value g.R.Ring.checked_product g.R.Ring.product l.c) before done;
  place : length done ≡ l.at;
  ends : l.at-end ≡ length l.initial.table.entries;
}
