use Rattle.std.proofs.Common.{◌≡◌, ◌++◌, map}
use Rattle.std.specs.Map.Iter.{deref_pair}
use Rattle.linear_combinations.specs.Gains.{Gains, scaled}
use Rattle.basis_change.specs.AugmentedProducts.{products}
use Rattle.basis_change.proofs.products.add_mixed.Given as goal

-- the terms added to `sum` so far are c times the products of the terms of `factor` visited so far with `converted` and `augmented`
abbrev pub invariant-loop-label : goal.invariant-loop-label
invariant-loop-label l = record {
  gains : Gains l.fn.sum (scaled l.c (products (map deref_pair l.yielded) l.converted l.augmented)) l.sum;
  so_far : map deref_pair l.yielded ++ l.label-iterator ≡ l.initial.label-iterator;
}
