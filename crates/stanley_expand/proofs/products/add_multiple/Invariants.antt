use Rattle.std.proofs.Common.{◌≡◌, ◌++◌, ◌*ℤ◌}
use Rattle.std.specs.Vec.Iter.{into_iter_items}
use Rattle.stanley_expand.specs.Blocks.{IsAdded, summed}
use Rattle.stanley_expand.proofs.products.add_multiple.Given as goal

-- the terms visited so far have been added, each `count` times; followed by those still to come, they are the whole list
abbrev pub invariant-loop-shape : goal.invariant-loop-shape
invariant-loop-shape l = record {
  added : IsAdded l.rows l.fn.sum (λ φ. l.count *ℤ summed l.rows φ l.yielded) l.sum;
  so_far : l.yielded ++ into_iter_items l.shape-iterator ≡ l.fn.terms;
}
