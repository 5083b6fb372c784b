use Rattle.std.proofs.Common.{◌≡◌, ◌++◌}
use Rattle.linear_combinations.proofs.lin.Lin.copy.Given as goal

-- the pairs copied so far, followed by the pairs still to be copied, are all pairs
abbrev pub invariant-loop-label : goal.invariant-loop-label
invariant-loop-label g l = l.table.entries ++ l.label-iterator ≡ l.initial.label-iterator
