use Rattle.std.proofs.Common.{◌≡◌, ◌++◌, map}
use Rattle.std.specs.Map.Iter.{deref_pair}
use Rattle.sparse_polys.specs.Tables.{IsWholeTable}
use Rattle.sparse_polys.proofs.WholeLists.{Finds}
use Rattle.plethysm_laws.specs.PowerSumPlethysm.{dilated}
use Rattle.plethysm.proofs.factors.dilated.Given as goal

-- `list` has the terms that arise from the visited ones by multiplying every part of the label by k. The visited terms, followed by those still to
-- come, are all terms of the given list
abbrev pub invariant-loop-label : goal.invariant-loop-label
invariant-loop-label l = record {
  finds : Finds l.list (dilated l.k (map deref_pair l.yielded));
  table : IsWholeTable l.list;
  so_far : map deref_pair l.yielded ++ l.label-iterator ≡ l.initial.label-iterator;
}
