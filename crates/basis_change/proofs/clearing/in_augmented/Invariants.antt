use Rattle.std.proofs.Common.{◌≡◌, [], ◌++◌, map}
use Rattle.std.specs.Map.Iter.{deref_pair}
use Rattle.linear_combinations.specs.Gains.{Gains}
use Rattle.basis_change.specs.AugmentedProducts.{IsMixedTable}
use Rattle.basis_change.specs.Clearing.{augmented_terms}
use Rattle.basis_change.proofs.clearing.in_augmented.Given as goal

abbrev pub invariant-loop-label : goal.invariant-loop-label
invariant-loop-label l = record {
  gains : Gains [] (augmented_terms l.factor (map deref_pair l.yielded)) l.sum;
  table : IsMixedTable l.sum;
  so_far : map deref_pair l.yielded ++ l.label-iterator ≡ l.initial.label-iterator;
}
