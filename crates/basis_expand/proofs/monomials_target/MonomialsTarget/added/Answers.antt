use Rattle.std.proofs.Common.{ap, Err}
use Rattle.sym_model.specs.Expression.{sum}
use Rattle.coeff_rings.proofs.CommonMultiples.{from_left-again, from_right-again}
use Rattle.basis_expand.proofs.Making.{failed, done}
use Rattle.basis_expand.specs.Clearing.{ClearsTo, IsHeavyInMonomials}
use Rattle.basis_expand.proofs.Conversions.{converted-sum, large-sum, large-sum_denominator}
use Rattle.basis_expand.proofs.Conversions.{Same-sum_again, SumIsLarge-again}
use Rattle.basis_expand.proofs.monomials_target.MonomialsTarget.added.Goals as goal

pub returns-in_err-common-clause-made : goal.returns-in_err-common-clause-made
returns-in_err-common-clause-made c e f t h k =
    failed ClearsTo IsHeavyInMonomials (sum e f) _ _ c.from_residual.ensures.0 c.from_residual.ensures.1
    (λ _. large-sum_denominator e f c.args.left c.args.right t.plain.0 t.plain.1 h k
    c.in_err-common.ensures.large)

pub returns-in_err-terms-clause-made : goal.returns-in_err-terms-clause-made
returns-in_err-terms-clause-made c e f t h k =
    let common = c.in_ok-common.ensures.ok in
    let left = from_left-again c.args.left.den c.args.right.den c.in_ok-common.common.den
    c.in_ok-common.common.from_left common.0 common.1 common.3 in
    let right = from_right-again c.args.left.den c.args.right.den c.in_ok-common.common.den
    c.in_ok-common.common.from_right common.0 common.1 common.4 in
    failed ClearsTo IsHeavyInMonomials (sum e f) _ _ c.from_residual-in_err-terms.ensures.0
    c.from_residual-in_err-terms.ensures.1
    (λ large.
    large-sum e f c.args.left c.args.right c.in_ok-common.common.from_left c.in_ok-common.common.from_right
    t.plain.0 t.plain.1 common.3 common.4 h k
    (SumIsLarge-again _ _ _ _ _ _ left right (c.in_err-terms.ensures.large (ap Err large))))

pub returns-clause-made : goal.returns-clause-made
returns-clause-made c e f t h k =
    let common = c.in_ok-common.ensures.ok in
    let left = from_left-again c.args.left.den c.args.right.den c.in_ok-common.common.den
    c.in_ok-common.common.from_left common.0 common.1 common.3 in
    let right = from_right-again c.args.left.den c.args.right.den c.in_ok-common.common.den
    c.in_ok-common.common.from_right common.0 common.1 common.4 in
    done ClearsTo IsHeavyInMonomials (sum e f) _
    (converted-sum e f c.args.left c.args.right _ c.in_ok-common.common.from_left
    c.in_ok-common.common.from_right common.3 common.4 common.0
    (Same-sum_again _ _ _ _ _ _ _ left right c.in_ok-terms.ensures.value)
    h k)
