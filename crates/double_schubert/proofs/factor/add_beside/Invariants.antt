use Rattle.std.proofs.Common.{take}
use Rattle.linear_combinations.specs.Gains.{Gains}
use Rattle.transition_laws.specs.Shifts.{each_beside}
use Rattle.double_schubert.proofs.factor.add_beside.Given as goal

-- k has been added at the label (v, y) for each permutation v visited so far
abbrev pub invariant-loop-perm : goal.invariant-loop-perm
invariant-loop-perm l = Gains l.fn.sum (each_beside l.k l.y (take l.perm-index l.perms)) l.sum
