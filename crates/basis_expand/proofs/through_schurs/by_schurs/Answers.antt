use Rattle.std.proofs.Common.{subst}
use Rattle.expression_reading.specs.Trees.{tree_of}
use Rattle.sparse_polys.proofs.Coefficients.{if_answered}
use Rattle.basis_expand.specs.SchurLists.{StandsFor}
use Rattle.basis_expand.proofs.through_schurs.by_schurs.Goals as goal

pub returns : goal.returns
returns c =
    let h = subst (λ e. StandsFor (tree_of e) c.in_ok-list.list) c.tree.ensures.tree
    c.in_ok-list.ensures in
    if_answered c.in_monomials.result c.in_monomials.ensures (λ list told n. told n _ _ (h n))
