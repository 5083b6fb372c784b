use Rattle.std.proofs.Common.{◌≡◌, ◌++◌, length, map, reverse}
use Rattle.std.specs.Prelude.{flat_map}
use Rattle.basis_expand.specs.Postorder.{postorder}
use Rattle.basis_expand.proofs.nodes.postorder.Given as goal

-- the postorders of the expressions that the loop still has to visit, followed by the visited nodes, the last one first, are the postorder of the
-- tree
abbrev pub invariant-loop-node : goal.invariant-loop-node
invariant-loop-node l = flat_map postorder (map (λ e. e.now) l.waiting.items) ++ map (λ e. e.now) (reverse l.nodes.items) ≡ postorder l.tree

abbrev pub decreases-loop-node : goal.decreases-loop-node
decreases-loop-node l = length (flat_map postorder (map (λ e. e.now) l.waiting.items))
