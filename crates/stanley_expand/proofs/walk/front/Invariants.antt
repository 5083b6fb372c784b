use Rattle.std.proofs.Common.{◌≡◌, ◌≤◌, ◌++◌}
use Rattle.stanley_expand.specs.Grassmannian.{front_beta}
use Rattle.stanley_expand.proofs.walk.front.Given as goal

-- the list so far, followed by the letters at the places i, .., 1, each minus 1, is the list of the letters at the places `rows`, .., 1, each minus 1
abbrev pub invariant-loop-i : goal.invariant-loop-i
invariant-loop-i l = record {
  all : l.list.items ++ front_beta l.i l.perm ≡ front_beta l.rows l.perm;
  small : l.i ≤ l.rows;
}

abbrev pub decreases-loop-i : goal.decreases-loop-i
decreases-loop-i l = l.i
