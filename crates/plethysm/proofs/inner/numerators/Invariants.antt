use Rattle.std.proofs.Common.{◌≡◌, ◌++◌, map}
use Rattle.std.specs.Map.Iter.{deref_pair}
use Rattle.sym_model.specs.WholeTerms.{numerators}
use Rattle.sparse_polys.specs.Tables.{IsWholeTable}
use Rattle.sparse_polys.proofs.WholeLists.{Finds}
use Rattle.plethysm.proofs.inner.numerators.Given as goal

-- `whole` has the visited terms with their numerators as coefficients. The visited terms, followed by those still to come, are all terms of the given
-- list
abbrev pub invariant-loop-label : goal.invariant-loop-label
invariant-loop-label l = record {
  finds : Finds l.whole (numerators (map deref_pair l.yielded));
  table : IsWholeTable l.whole;
  so_far : map deref_pair l.yielded ++ l.label-iterator ≡ l.initial.label-iterator;
}
