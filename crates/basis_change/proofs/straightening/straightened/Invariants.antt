use Rattle.std.proofs.Common.{◌≡◌, [], ◌++◌, map}
use Rattle.std.specs.Map.Iter.{deref_pair}
use Rattle.linear_combinations.specs.Gains.{Gains, HaveLabels}
use Rattle.beta_sets.specs.BetaSets.{shapes, IsInRows, IsShapeTable}
use Rattle.basis_change.specs.KeptLists.{AreKept}
use Rattle.basis_change.specs.Straightening.{straightened_list}
use Rattle.basis_change.proofs.straightening.straightened.Given as goal

abbrev pub invariant-loop-label : goal.invariant-loop-label
invariant-loop-label l = record {
  kept : AreKept l.lists.entries;
  gains : Gains [] (straightened_list l.size (map deref_pair l.yielded)) (shapes l.sum);
  table : IsShapeTable l.sum;
  within : HaveLabels (IsInRows 20 20) l.sum;
  so_far : map deref_pair l.yielded ++ l.label-iterator ≡ l.initial.label-iterator;
}
