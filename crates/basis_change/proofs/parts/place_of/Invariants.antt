use Rattle.std.proofs.Common.{◌≡◌, ◌++◌, ◌-◌, ◌≤◌, take, drop, length}
use Rattle.sym_model.specs.Partition.{insert_part}
use Rattle.basis_change.proofs.parts.place_of.Given as goal

-- inserting `part` into `parts` gives the first `at` parts, followed by the result of inserting `part` into the other parts
abbrev pub invariant-loop-at : goal.invariant-loop-at
invariant-loop-at l = (insert_part l.part l.parts ≡ take l.at l.parts ++ insert_part l.part (drop l.at l.parts)) × (l.at ≤ length l.parts)

abbrev pub decreases-loop-at : goal.decreases-loop-at
decreases-loop-at l = length l.parts - l.at
