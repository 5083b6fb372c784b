use Rattle.std.proofs.Common.{subst}
use Rattle.expression_reading.specs.Trees.{tree_of}
use Rattle.basis_expand.specs.SchurLists.{StandsFor}
use Rattle.basis_expand.proofs.into_schurs.to_schur.Goals as goal

pub returns-in-Ok-clause-value : goal.returns-in-Ok-clause-value
returns-in-Ok-clause-value c n = subst (λ e. StandsFor (tree_of e) c.in-Ok.list) c.tree.ensures.tree
    c.in-Ok.ensures n
