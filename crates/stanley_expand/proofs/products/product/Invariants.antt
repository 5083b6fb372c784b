use Rattle.std.proofs.Common.{◌≡◌, ◌++◌, [], map}
use Rattle.std.specs.Map.Iter.{deref_pair}
use Rattle.sym_model.specs.Polynomial.{pair, times}
use Rattle.sym_model.specs.Schur.{schur}
use Rattle.linear_combinations.specs.Gains.{over}
use Rattle.stanley_expand.specs.Blocks.{IsAdded}
use Rattle.stanley_expand.proofs.products.product.Given as goal

-- the products of `right` with the terms visited so far have been added; followed by those still to come, these terms are all terms of `left`
abbrev pub invariant-loop-shape : goal.invariant-loop-shape
invariant-loop-shape l = record {
  added : IsAdded l.rows [] (λ φ. over (λ κ. over (λ ν. pair (times (schur κ l.rows) (schur ν l.rows)) φ) l.right) (map deref_pair l.yielded)) l.sum;
  so_far : map deref_pair l.yielded ++ l.shape-iterator ≡ l.initial.shape-iterator;
}
