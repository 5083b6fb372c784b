use Rattle.std.proofs.Common.{map}
use Rattle.std.specs.List.{All}
use Rattle.std.specs.Vec.Iter.{into_iter_items}
use Rattle.basis_expand.specs.Postorder.{Evaluates}
use Rattle.expression_reading.specs.Trees.{tree_of}
use Rattle.basis_expand.proofs.Parts.{IsPart}
use Rattle.basis_expand.proofs.evaluation.evaluate.Given as goal

-- evaluating the remaining nodes on the stack of values gives a value of the expression. The numbers of each of these nodes have no minus signs, and
-- its numerator, denominator and degree are at most those of the expression (`IsPart`)
abbrev pub invariant-loop-node : goal.invariant-loop-node
invariant-loop-node g l = record {
  evaluates : Evaluates (λ e. g.T.Target.stands l.target (tree_of e)) l.tree (map (λ e. e.now) (into_iter_items l.node-iterator)) l.values.items;
  parts : All (IsPart l.tree) (map (λ e. e.now) (into_iter_items l.node-iterator));
}
