use Rattle.std.proofs.Common.{◌≡◌, ◌++◌, length}
use Rattle.lr_coproduct.proofs.InnerLists.{listed_from, below_it}
use Rattle.lr_coproduct.proofs.inner_shapes.+add_shapes.Given as goal

abbrev pub decreases-add_shapes : goal.decreases-add_shapes
decreases-add_shapes l = length l.rows.now

abbrev pub invariant-loop-part : goal.invariant-loop-part
invariant-loop-part l = l.shapes.items ≡ l.initial.shapes.items ++ listed_from l.front l.below (below_it l.part)
