use Rattle.std.proofs.Common.{◌≡◌, take, map, length}
use Rattle.sym_model.specs.Partition.{after}
use Rattle.skew_shapes.specs.AddedHooks.{added_row}
use Rattle.skew_shapes.proofs.hooks_added.write_rows.Given as goal

-- the first `above` numbers of the buffer are the lengths of the rows 1, .., above with the rim hook added
abbrev pub invariant-loop-above : goal.invariant-loop-above
invariant-loop-above l =
    (take l.above l.buffer ≡ map (added_row l.k l.inner l.hook.first l.hook.last) (after 0 l.above)) × (length l.buffer ≡ length l.initial.buffer)
