use Rattle.std.proofs.Common.{◌≡◌, ◌-◌, ◌++◌, map, take}
use Rattle.expand_in_families.proofs.schur_lists.left_by_hook.Given as goal

-- the list has the rows above the row `row`, and then, each shortened by one cell, the rows below `row` that the loop has visited
abbrev pub invariant-loop-part : goal.invariant-loop-part
invariant-loop-part l = l.parts.items ≡ take l.row l.shape ++ map (λ a. a - 1) (take l.part-index l.part-items)
