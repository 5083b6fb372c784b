use Rattle.std.proofs.Common.{◌≡◌, ◌++◌, map, length, flat_map}
use Rattle.skew_shapes.specs.HorizontalStrips.{counting_down}
use Rattle.skew_shapes.proofs.StripLists.{grown}
use Rattle.skew_shapes.proofs.horizontal_strips.+add_strips.Given as goal

abbrev pub decreases-add_strips : goal.decreases-add_strips
decreases-add_strips l = length l.inner.now

-- the shapes whose first row has one of the lengths longest, longest - 1, .., longest - shorter + 1 have been appended, and no others
abbrev pub invariant-loop-shorter : goal.invariant-loop-shorter
invariant-loop-shorter l = record {
  same : l.above.items ≡ l.fn.above.items;
  listed :
      l.shapes.items ≡ l.fn.shapes.items ++ map (λ rest. l.fn.above.items ++ rest) (flat_map (grown l.first l.left l.below) (counting_down l.longest l.shorter));
}
