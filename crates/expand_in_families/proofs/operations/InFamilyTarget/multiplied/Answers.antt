use Rattle.std.proofs.Common.{◌*◌, ◌<◌, ◌^◌, [], arith, ap, subst, refl, Err}
use Rattle.sym_model.specs.Expression.{product}
use Rattle.sym_model.specs.Polynomial.{scale}
use Rattle.sym_model.specs.WholeTerms.{WholeTerms}
use Rattle.basis_change_laws.specs.JoinedLists.{joined}
use Rattle.linear_combinations.specs.Gains.{Gains, Overflows}
use Rattle.basis_expand.proofs.Making.{failed, done}
use Rattle.sparse_polys.specs.Families.{polynomial_of}
use Rattle.sparse_polys.specs.Tables.{equal}
use Rattle.sparse_polys.proofs.Families.{In-family}
use Rattle.expand_in_families.specs.Nodes.{ClearsTo, IsHeavyInFamilies}
use Rattle.expand_in_families.proofs.Nodes.{node-greatest, clears-product, large-product}
use Rattle.expand_in_families.proofs.Nodes.{large-product_denominator}
use Rattle.expand_in_families.proofs.operations.InFamilyTarget.multiplied.Goals as goal

pub returns-in_err-den : goal.returns-in_err-den
returns-in_err-den c e f t h k =
    failed (ClearsTo (polynomial_of c.args.self.now.family)) IsHeavyInFamilies (product e f) _ _
    c.from_residual.ensures.0 c.from_residual.ensures.1
    (λ _. large-product_denominator (polynomial_of c.args.self.now.family) e f c.args.left
    c.args.right t.plain.0 t.plain.1 h k (let not_below : c.args.left.den * c.args.right.den < 2
    ^ 127 → ⊥ = c.in_err-den.ensures in omega arith))

pub returns-in_err-add_products : goal.returns-in_err-add_products
returns-in_err-add_products c e f t h k =
    failed (ClearsTo (polynomial_of c.args.self.now.family)) IsHeavyInFamilies (product e f) _ _
    c.from_residual-in_err-add_products.ensures.0 c.from_residual-in_err-add_products.ensures.1
    (λ large.
    large-product (polynomial_of c.args.self.now.family) e f c.args.left c.args.right
    c.binomial.result c.whole_of-ways.result t.plain.0 t.plain.1 c.whole_of-ways.ensures
    c.binomial.ensures.value h k
    (subst (λ (ts : WholeTerms). Overflows equal ts
    (joined (scale c.whole_of-ways.result c.args.left.terms) c.args.right.terms))
    c.new-terms.ensures (c.in_err-add_products.ensures.large (ap Err large))))

pub returns : goal.returns
returns c e f t h k =
    done (ClearsTo (polynomial_of c.args.self.now.family)) IsHeavyInFamilies (product e f) _
    (clears-product (polynomial_of c.args.self.now.family) (In-family c.args.self.now.family) e f
    c.args.left c.args.right _ c.binomial.result c.in_ok-den.ensures.1 refl
    c.binomial.ensures.value
    (subst (λ z. Gains [] (joined (scale z c.args.left.terms) c.args.right.terms)
    c.add_products.new.sum) c.whole_of-ways.ensures
    (subst (λ (ts : WholeTerms). Gains ts
    (joined (scale c.whole_of-ways.result c.args.left.terms) c.args.right.terms)
    c.add_products.new.sum) c.new-terms.ensures
    c.in_ok-add_products.ensures.gains))
    h k)

pub binomial-requires : goal.binomial-requires
binomial-requires c =
    let x = c.requires.3.degree_is in
    let y = c.requires.4.degree_is in
    let low = c.requires.2.low in
    omega arith

pub add_products-requires : goal.add_products-requires
add_products-requires c =
    let x = node-greatest (polynomial_of c.args.self.now.family) c.requires.0 c.args.left
    c.requires.3 in
    let y = node-greatest (polynomial_of c.args.self.now.family) c.requires.1 c.args.right
    c.requires.4 in
    let low = c.requires.2.low in
    omega arith
