use Rattle.std.proofs.Common.{take}
use Rattle.linear_combinations.specs.Gains.{Gains, each_with}
use Rattle.linear_combinations.proofs.whole.Lin+L+Int.add_each.Given as goal

-- the table is the one at the start plus c at each of the labels visited so far (`Gains`)
abbrev pub invariant-loop-label : goal.invariant-loop-label
invariant-loop-label g l = Gains l.fn.self (each_with l.c (take l.label-index l.labels)) l.self
