use Rattle.expression_reading.specs.Trees.{tree_of}
use Rattle.basis_expand.proofs.schurs_target.converted.Goals as goal

pub list_of-requires : goal.list_of-requires
list_of-requires c = (tree_of c.args.tree.now, c.in_ok-value.ensures.ok, c.requires.low)

pub returns : goal.returns
returns c = c.list_of.ensures (tree_of c.args.tree.now) c.in_ok-value.ensures.ok
