use Rattle.std.proofs.Common.{subst}
use Rattle.expression_reading.specs.Trees.{tree_of}
use Rattle.basis_expand.specs.Clearing.{ClearsTo}
use Rattle.sparse_polys.proofs.WholeLists.{if_ok_both}
use Rattle.sparse_polys.proofs.DividedLists.{expansion-quotients, bounded-quotients}
use Rattle.sparse_polys.proofs.DividedLists.{within-quotients}
use Rattle.basis_expand.proofs.into_monomials.to_monomial.Goals as goal

pub returns-clause-value : goal.returns-clause-value
returns-clause-value c =
    let e = tree_of c.args.formula.now.tree in
    let k = c.in_ok-converted.converted in
    let h : ClearsTo (tree_of c.args.formula.now.tree) c.in_ok-converted.converted =
    subst (λ t. ClearsTo (tree_of t) c.in_ok-converted.converted) c.tree.ensures.tree
    c.in_ok-converted.ensures.ok in
    if_ok_both c.divided.result c.divided.ensures.value c.divided.ensures.table
    (λ list q is. expansion-quotients (tree_of c.args.formula.now.tree) k.terms list k.den
    k.positive is q h.value h.den_is)

pub returns-clause-bounded : goal.returns-clause-bounded
returns-clause-bounded c =
    let k = c.in_ok-converted.converted in
    let h : ClearsTo (tree_of c.args.formula.now.tree) c.in_ok-converted.converted =
    subst (λ t. ClearsTo (tree_of t) c.in_ok-converted.converted) c.tree.ensures.tree
    c.in_ok-converted.ensures.ok in
    if_ok_both c.divided.result c.divided.ensures.value c.divided.ensures.table
    (λ list q is. bounded-quotients (tree_of c.args.formula.now.tree) k.terms list k.den k.positive
    is q h.value h.den_is)

pub returns-clause-labels : goal.returns-clause-labels
returns-clause-labels c =
    let k = c.in_ok-converted.converted in
    let h : ClearsTo (tree_of c.args.formula.now.tree) c.in_ok-converted.converted =
    subst (λ t. ClearsTo (tree_of t) c.in_ok-converted.converted) c.tree.ensures.tree
    c.in_ok-converted.ensures.ok in
    if_ok_both c.divided.result c.divided.ensures.value c.divided.ensures.table
    (λ list q is. within-quotients (tree_of c.args.formula.now.tree) k.terms list k.den k.positive
    is q h.value h.den_is)
