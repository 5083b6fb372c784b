use Rattle.std.proofs.Common.{◌≡◌, ◌*◌, ◌<◌, ◌≤◌, ◌^◌, ◌∙◌, ap, ap₂, subst, Err, arith}
use Rattle.sym_model.specs.Expression.{cleared_value, degree, denominator}
use Rattle.sym_model.specs.Expansion.{completes}
use Rattle.sym_model.specs.Weight.{factorial, numerator, weight}
use Rattle.monomial_laws.proofs.Growths.{factorial-positive}
use Rattle.monomial_laws.proofs.WeightBounds.{denominator-positive}
use Rattle.linear_combinations.proofs.Steps.{error_is}
use Rattle.expression_reading.specs.Trees.{tree_of}
use Rattle.sparse_polys.proofs.Quotients.{Quotients}
use Rattle.basis_expand.proofs.Parts.{HasDenominators-plain}
use Rattle.sparse_polys.proofs.WholeLists.{if_ok_both}
use Rattle.basis_change_laws.proofs.GrowthBounds.{grown}
use Rattle.sparse_polys.specs.Families.{polynomial_of}
use Rattle.expand_in_families.specs.Nodes.{ClearsTo}
use Rattle.expand_in_families.proofs.Endings.{expansion-divided}
use Rattle.expand_in_families.proofs.MonomialAtoms.{expansion-family}
use Rattle.expand_in_families.proofs.Nodes.{denominator-within_weight}
use Rattle.expand_in_families.proofs.Weights.{heavy-in_target}
use Rattle.expand_in_families.proofs.expansion.to_family.Goals as goal
use native.Mathlib.Nat.{mul-pos}

pub returns-in_err-node-clause-large : goal.returns-in_err-node-clause-large
returns-in_err-node-clause-large c = λ large.
    let h = c.in_err-node.ensures.large (ap Err (error_is _ _ _ c.from_residual.ensures.1 large)) in
    heavy-in_target c.args.target (tree_of c.args.formula.now.tree)
    (subst (λ t. 2 ^ 127 ≤ weight completes (tree_of t)) c.tree.ensures.tree h)

pub returns-in_err-den-clause-large : goal.returns-in_err-den-clause-large
returns-in_err-den-clause-large c = λ large.
    let e = tree_of c.args.formula.now.tree in
    let k = c.in_ok-node.node in
    let h : ClearsTo (polynomial_of c.args.target) (tree_of c.args.formula.now.tree)
    c.in_ok-node.node =
    subst (λ t. ClearsTo (polynomial_of c.args.target) (tree_of t) c.in_ok-node.node)
    c.tree.ensures.tree c.in_ok-node.ensures.ok in
    let plain = HasDenominators-plain c.args.formula.now.tree c.tree.ensures.within.numbers in
    let w = denominator-within_weight (tree_of c.args.formula.now.tree) plain in
    let same : c.in_ok-node.node.den * c.factorial.result ≡ denominator
    (tree_of c.args.formula.now.tree) * factorial (degree (tree_of c.args.formula.now.tree)) =
    ap₂ ◌*◌ h.den_is (c.factorial.ensures ∙ ap factorial h.degree_is) in
    let not_below : c.in_ok-node.node.den * c.factorial.result < 2 ^ 127 → ⊥ =
    c.in_err-den.ensures in
    heavy-in_target c.args.target (tree_of c.args.formula.now.tree) (omega arith)

pub divided-requires : goal.divided-requires
divided-requires c =
    let small = c.in_ok-den.ensures.0 in
    let den = c.in_ok-den.ensures.1 in
    let f = factorial-positive c.in_ok-node.node.degree in
    let e = c.factorial.ensures in
    let p : 0 < c.in_ok-node.node.den * c.factorial.result = mul-pos c.in_ok-node.node.positive
    (let q : 0 < c.factorial.result = omega arith in q) in
    (omega arith, omega arith)

pub returns-clause-value : goal.returns-clause-value
returns-clause-value c =
    let e = tree_of c.args.formula.now.tree in
    let k = c.in_ok-node.node in
    let h : ClearsTo (polynomial_of c.args.target) (tree_of c.args.formula.now.tree)
    c.in_ok-node.node =
    subst (λ t. ClearsTo (polynomial_of c.args.target) (tree_of t) c.in_ok-node.node)
    c.tree.ensures.tree c.in_ok-node.ensures.ok in
    let plain = HasDenominators-plain c.args.formula.now.tree c.tree.ensures.within.numbers in
    let same : c.in_ok-den.den ≡ denominator (tree_of c.args.formula.now.tree) * factorial
    (degree (tree_of c.args.formula.now.tree)) = c.in_ok-den.ensures.1 ∙ ap₂ ◌*◌ h.den_is
    (c.factorial.ensures ∙ ap factorial h.degree_is) in
    if_ok_both c.divided.result c.divided.ensures.value c.divided.ensures.table
    (λ list q is n.
    expansion-family c.args.target list n (cleared_value (tree_of c.args.formula.now.tree) n)
    (denominator (tree_of c.args.formula.now.tree))
    (expansion-divided (polynomial_of c.args.target) (factorial (degree e))
    (numerator e * grown (degree e)) (degree e) (denominator e) (cleared_value e) k.terms list
    (factorial-positive (degree e)) (denominator-positive e plain)
    h.stands is (subst (λ d. Quotients d list c.in_ok-node.node.terms) same q) n))
