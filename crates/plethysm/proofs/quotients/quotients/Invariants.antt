use Rattle.std.proofs.Common.{◌≡◌, ◌++◌, map}
use Rattle.std.specs.Map.Iter.{deref_pair}
use Rattle.sparse_polys.specs.Tables.{IsWholeTable}
use Rattle.sparse_polys.proofs.WholeLists.{Finds}
use Rattle.plethysm.proofs.NumeratorLists.{mapped}
use Rattle.plethysm.proofs.QuotientLists.{divided_by}
use Rattle.plethysm.proofs.quotients.quotients.Given as goal

-- `quotients` has the visited terms with their coefficients divided by k. The visited terms, followed by those still to come, are all terms of the
-- given list
abbrev pub invariant-loop-label : goal.invariant-loop-label
invariant-loop-label l = record {
  finds : Finds l.quotients (mapped (divided_by l.k) (map deref_pair l.yielded));
  table : IsWholeTable l.quotients;
  so_far : map deref_pair l.yielded ++ l.label-iterator ≡ l.initial.label-iterator;
}
