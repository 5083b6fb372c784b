use Rattle.std.proofs.Common.{◌≡◌, ◌++◌, map}
use Rattle.std.specs.Map.Iter.{deref_pair}
use Rattle.linear_combinations.specs.Gains.{Gains}
use Rattle.basis_change_laws.specs.JoinedLists.{row}
use Rattle.family_lists.proofs.products.add_row.Given as goal

-- the terms added to `sum` so far are the products of z·`left` with the terms of `right` visited so far
abbrev pub invariant-loop-label : goal.invariant-loop-label
invariant-loop-label l = record {
  gains : Gains l.fn.sum (row l.left l.z (map deref_pair l.yielded)) l.sum;
  so_far : map deref_pair l.yielded ++ l.label-iterator ≡ l.initial.label-iterator;
}
