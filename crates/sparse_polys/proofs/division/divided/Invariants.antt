use Rattle.std.proofs.Common.{◌≡◌, ◌++◌, map}
use Rattle.std.specs.Map.Iter.{deref_pair}
use Rattle.sparse_polys.specs.Tables.{IsFractionTable}
use Rattle.sparse_polys.proofs.Quotients.{Quotients}
use Rattle.sparse_polys.proofs.division.divided.Given as goal

-- the table has the quotients of the terms visited so far, and these terms followed by those still to come are all terms of the list
abbrev pub invariant-loop-label : goal.invariant-loop-label
invariant-loop-label l = record {
  quotients : Quotients l.den l.list (map deref_pair l.yielded);
  table : IsFractionTable l.list;
  so_far : map deref_pair l.yielded ++ l.label-iterator ≡ l.initial.label-iterator;
}
