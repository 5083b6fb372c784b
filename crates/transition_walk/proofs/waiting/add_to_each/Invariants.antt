use Rattle.std.proofs.Common.{◌≡◌, ◌++◌}
use Rattle.std.specs.Vec.Iter.{into_iter_items}
use Rattle.transition_walk.specs.Waiting.{Joins, each_waits}
use Rattle.transition_walk.proofs.waiting.add_to_each.Given as goal

-- the terms of `list` have been added to the waiting list of each cover visited so far; the covers visited so far, followed by those still to come,
-- are `covers`
abbrev pub invariant-loop-cover : goal.invariant-loop-cover
invariant-loop-cover g l = record {
  joins : Joins l.fn.todo.items (each_waits l.list l.yielded) l.todo.items;
  so_far : l.yielded ++ into_iter_items l.cover-iterator ≡ l.fn.covers.items;
}
