use Rattle.std.proofs.Common.{◌≡◌, ◌+◌, length}
use Rattle.strip_rules.specs.Rows.{HasAdded}
use Rattle.strip_rules.proofs.AddedCells.{HasRow}
use Rattle.strip_rules.proofs.complete.+add_shapes.Given as goal

abbrev pub decreases-add_shapes : goal.decreases-add_shapes
decreases-add_shapes l = length l.inner.now + l.left

-- of the partitions to be listed, those in which the rows of `above` are followed by a row shorter than `row` have been appended to `shapes`
abbrev pub invariant-loop-row : goal.invariant-loop-row
invariant-loop-row l = record {
  same : l.above.items ≡ l.fn.above.items;
  added : HasAdded (HasRow l.most l.left l.fn.inner l.row) l.fn.above.items l.fn.shapes.items l.shapes.items;
}
