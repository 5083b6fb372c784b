use Rattle.std.proofs.Common.{◌≡◌, ◌++◌}
use Rattle.std.specs.Prelude.{nat_eq}
use Rattle.std.specs.Cmp.Lexicographic.{pointwise}
use Rattle.std.specs.Vec.Iter.{into_iter_items}
use Rattle.sym_model.specs.LabelLimits.{is_label}
use Rattle.linear_combinations.specs.Cleared.{GainsMultiple}
use Rattle.basis_expand.proofs.schur_products.add_pair.Given as goal

-- the terms of the product that the loop has visited, times c, have been added to `sum`; followed by the other terms, they are all terms of the
-- product
abbrev pub invariant-loop-shape : goal.invariant-loop-shape
invariant-loop-shape l = record {
  gains : GainsMultiple (pointwise nat_eq) is_label l.c l.yielded l.fn.sum l.sum;
  so_far : l.yielded ++ into_iter_items l.shape-iterator ≡ into_iter_items l.initial.shape-iterator;
}
