use Rattle.std.proofs.Common.{◌≡◌, ◌++◌, map, ◌*ℤ◌}
use Rattle.std.specs.Map.Iter.{deref_pair}
use Rattle.sym_model.specs.Polynomial.{pair, times}
use Rattle.sym_model.specs.Schur.{schur}
use Rattle.linear_combinations.specs.Gains.{over}
use Rattle.stanley_expand.specs.Blocks.{IsAdded}
use Rattle.stanley_expand.proofs.products.add_row.Given as goal

-- the products of `left` with the terms visited so far have been added; followed by those still to come, these terms are all terms of `right`
abbrev pub invariant-loop-shape : goal.invariant-loop-shape
invariant-loop-shape l = record {
  added : IsAdded l.rows l.fn.sum (λ φ. l.count *ℤ over (λ κ. pair (times (schur l.left l.rows) (schur κ l.rows)) φ) (map deref_pair l.yielded)) l.sum;
  so_far : map deref_pair l.yielded ++ l.shape-iterator ≡ l.initial.shape-iterator;
}
