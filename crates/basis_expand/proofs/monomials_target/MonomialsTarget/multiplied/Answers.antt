use Rattle.std.proofs.Common.{◌*◌, ◌<◌, ◌^◌, arith, ap, Err}
use Rattle.sym_model.specs.Expression.{product, degree}
use Rattle.sparse_polys.proofs.Bounds.{AreWithin-cleared}
use Rattle.sparse_polys.proofs.Bounds.{greatest-within}
use Rattle.sparse_polys.proofs.WholeLists.{Once-labels}
use Rattle.basis_expand.proofs.Making.{failed, done}
use Rattle.basis_expand.specs.Clearing.{ClearsTo, IsHeavyInMonomials}
use Rattle.basis_expand.proofs.Conversions.{converted-product, large-product}
use Rattle.basis_expand.proofs.Conversions.{large-product_denominator}
use Rattle.basis_expand.proofs.monomials_target.MonomialsTarget.multiplied.Goals as goal

pub returns-in_err-den : goal.returns-in_err-den
returns-in_err-den c e f t h k =
    failed ClearsTo IsHeavyInMonomials (product e f) _ _ c.from_residual.ensures.0 c.from_residual.ensures.1
    (λ _. large-product_denominator e f c.args.left c.args.right t.plain.0 t.plain.1 h k
    (let not_below : c.args.left.den * c.args.right.den < 2 ^ 127 → ⊥ = c.in_err-den.ensures in
    omega arith))

pub returns-in_err-terms : goal.returns-in_err-terms
returns-in_err-terms c e f t h k =
    failed ClearsTo IsHeavyInMonomials (product e f) _ _ c.from_residual-in_err-terms.ensures.0
    c.from_residual-in_err-terms.ensures.1
    (λ large.
    large-product e f _ _ t.plain.0 t.plain.1
    (Once-labels c.args.left.terms c.args.left.table)
    (Once-labels c.args.right.terms c.args.right.table) h.value k.value
    (c.in_err-terms.ensures.large (ap Err large)))

pub returns : goal.returns
returns c e f t h k =
    done ClearsTo IsHeavyInMonomials (product e f) _ (converted-product e f c.args.left c.args.right _
    c.in_ok-den.ensures.1 c.in_ok-terms.ensures.coefficients h k)

pub times_whole_in_m-requires : goal.times_whole_in_m-requires
times_whole_in_m-requires c =
    let e = c.requires.0 in
    let f = c.requires.1 in
    let t = c.requires.2 in
    let left = greatest-within (degree e) c.args.left.terms (AreWithin-cleared e c.args.left.terms
    c.args.left.table c.requires.3.value) in
    let right = greatest-within (degree f) c.args.right.terms
    (AreWithin-cleared f c.args.right.terms c.args.right.table c.requires.4.value) in
    let low = t.low in
    omega arith
