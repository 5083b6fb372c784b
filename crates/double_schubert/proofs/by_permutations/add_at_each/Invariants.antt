-- Loop invariant: for each permutation visited so far, the image of `poly` under `rule` has been added to the polynomial in y that `sum` has for
-- this permutation.
use Rattle.std.proofs.Common.{take}
use Rattle.linear_combinations.specs.Gains.{replaced}
use Rattle.transition_walk.specs.Waiting.{Joins, each_waits}
use Rattle.double_schubert.proofs.by_permutations.add_at_each.Given as goal

abbrev pub invariant-loop-perm : goal.invariant-loop-perm
invariant-loop-perm g l = Joins l.fn.sum.items
    (each_waits (replaced (g.T.Rule.image l.rule) l.poly) (take l.perm-index l.perms)) l.sum.items
