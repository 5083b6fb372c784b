use Rattle.std.specs.Prelude.{nat_abs}
use Rattle.std.proofs.Common.{◌≤◌, ◌^◌, pos, ◌*ℤ◌, ap, subst, ◌∙◌, Err, inl, inr, to_z-of_z, arith}
use Rattle.std.specs.Int.{w128}
use Rattle.sym_model.specs.Expression.{sum}
use Rattle.sym_model.specs.Weight.{factorial}
use Rattle.coeff_rings.proofs.CommonMultiples.{from_left-again, from_right-again}
use Rattle.basis_expand.proofs.Making.{failed, done}
use Rattle.sparse_polys.specs.Families.{polynomial_of}
use Rattle.expand_in_families.specs.Nodes.{ClearsTo, IsHeavyInFamilies}
use Rattle.expand_in_families.proofs.NodeSums.{clears-sum, large-sum, large-factors}
use Rattle.expand_in_families.proofs.NodeSums.{large-sum_denominator}
use Rattle.expand_in_families.proofs.operations.InFamilyTarget.added.Goals as goal

pub returns-in_err-common-clause-made : goal.returns-in_err-common-clause-made
returns-in_err-common-clause-made c e f t h k =
    failed (ClearsTo (polynomial_of c.args.self.now.family)) IsHeavyInFamilies (sum e f) _ _
    c.from_residual.ensures.0 c.from_residual.ensures.1
    (λ _. large-sum_denominator (polynomial_of c.args.self.now.family) e f c.args.left
    c.args.right t.plain.0 t.plain.1 h k c.in_err-common.ensures.large)

pub returns-in_err-p-clause-made : goal.returns-in_err-p-clause-made
returns-in_err-p-clause-made c e f t h k =
    let common = c.in_ok-common.ensures.ok in
    failed (ClearsTo (polynomial_of c.args.self.now.family)) IsHeavyInFamilies (sum e f) _ _
    c.from_residual-in_err-p.ensures.0 c.from_residual-in_err-p.ensures.1
    (λ _. large-factors (polynomial_of c.args.self.now.family) e f c.args.left c.args.right
    c.rise-by_left.result c.rise-by_right.result t.plain.0 t.plain.1 h k
    (c.rise-by_left.ensures.value ∙ ap factorial c.max-degree.ensures)
    (c.rise-by_right.ensures.value ∙ ap factorial c.max-degree.ensures)
    (c.in_ok-common.common.from_left *ℤ pos c.rise-by_left.result)
    (c.in_ok-common.common.from_right *ℤ pos c.rise-by_right.result)
    (ap (λ z. z *ℤ pos c.rise-by_left.result) common.3) (ap (λ z. z *ℤ pos c.rise-by_right.result)
    common.4)
    (inl (subst (λ z. 2 ^ 127 ≤ nat_abs (z *ℤ pos c.rise-by_left.result)) (from_left-again
    c.args.left.den c.args.right.den c.in_ok-common.common.den c.in_ok-common.common.from_left common.0
    common.1 common.3) c.in_err-p.ensures)))

pub returns-in_err-q-clause-made : goal.returns-in_err-q-clause-made
returns-in_err-q-clause-made c e f t h k =
    let common = c.in_ok-common.ensures.ok in
    failed (ClearsTo (polynomial_of c.args.self.now.family)) IsHeavyInFamilies (sum e f) _ _
    c.from_residual-in_err-q.ensures.0 c.from_residual-in_err-q.ensures.1
    (λ _. large-factors (polynomial_of c.args.self.now.family) e f c.args.left c.args.right
    c.rise-by_left.result c.rise-by_right.result t.plain.0 t.plain.1 h k
    (c.rise-by_left.ensures.value ∙ ap factorial c.max-degree.ensures)
    (c.rise-by_right.ensures.value ∙ ap factorial c.max-degree.ensures)
    (c.in_ok-common.common.from_left *ℤ pos c.rise-by_left.result)
    (c.in_ok-common.common.from_right *ℤ pos c.rise-by_right.result)
    (ap (λ z. z *ℤ pos c.rise-by_left.result) common.3) (ap (λ z. z *ℤ pos c.rise-by_right.result)
    common.4)
    (inr (subst (λ z. 2 ^ 127 ≤ nat_abs (z *ℤ pos c.rise-by_right.result)) (from_right-again
    c.args.left.den c.args.right.den c.in_ok-common.common.den c.in_ok-common.common.from_right common.0
    common.1 common.4) c.in_err-q.ensures)))

pub returns-in_err-terms-clause-made : goal.returns-in_err-terms-clause-made
returns-in_err-terms-clause-made c e f t h k =
    let common = c.in_ok-common.ensures.ok in
    let left = to_z-of_z {w = w128} {z = c.get.result} (record { sfits = c.get.type_inv })
    ∙ c.get.ensures in
    let right = to_z-of_z {w = w128} {z = c.get-2.result} (record { sfits = c.get-2.type_inv })
    ∙ c.get-2.ensures in
    failed (ClearsTo (polynomial_of c.args.self.now.family)) IsHeavyInFamilies (sum e f) _ _
    c.from_residual-in_err-terms.ensures.0 c.from_residual-in_err-terms.ensures.1
    (λ large.
    large-sum (polynomial_of c.args.self.now.family) e f c.args.left c.args.right
    c.rise-by_left.result c.rise-by_right.result t.plain.0 t.plain.1 h k
    (c.rise-by_left.ensures.value ∙ ap factorial c.max-degree.ensures)
    (c.rise-by_right.ensures.value ∙ ap factorial c.max-degree.ensures)
    _ _
    (left ∙ c.in_ok-p.ensures ∙ ap (λ z. z *ℤ pos c.rise-by_left.result) (from_left-again
    c.args.left.den c.args.right.den c.in_ok-common.common.den c.in_ok-common.common.from_left common.0
    common.1 common.3 ∙ common.3))
    (right ∙ c.in_ok-q.ensures ∙ ap (λ z. z *ℤ pos c.rise-by_right.result) (from_right-again
    c.args.left.den c.args.right.den c.in_ok-common.common.den c.in_ok-common.common.from_right common.0
    common.1 common.4 ∙ common.4))
    (c.in_err-terms.ensures.large (ap Err large)))

pub returns-clause-made : goal.returns-clause-made
returns-clause-made c e f t h k =
    let common = c.in_ok-common.ensures.ok in
    let left = to_z-of_z {w = w128} {z = c.get.result} (record { sfits = c.get.type_inv })
    ∙ c.get.ensures in
    let right = to_z-of_z {w = w128} {z = c.get-2.result} (record { sfits = c.get-2.type_inv })
    ∙ c.get-2.ensures in
    done (ClearsTo (polynomial_of c.args.self.now.family)) IsHeavyInFamilies (sum e f) _
    (clears-sum (polynomial_of c.args.self.now.family) e f c.args.left c.args.right
    c.rise-by_left.result c.rise-by_right.result t.plain.0 t.plain.1 h k
    (c.rise-by_left.ensures.value ∙ ap factorial c.max-degree.ensures)
    (c.rise-by_right.ensures.value ∙ ap factorial c.max-degree.ensures)
    _ _ _ common.0 c.max-degree.ensures
    (left ∙ c.in_ok-p.ensures ∙ ap (λ z. z *ℤ pos c.rise-by_left.result) (from_left-again
    c.args.left.den c.args.right.den c.in_ok-common.common.den c.in_ok-common.common.from_left common.0
    common.1 common.3 ∙ common.3))
    (right ∙ c.in_ok-q.ensures ∙ ap (λ z. z *ℤ pos c.rise-by_right.result) (from_right-again
    c.args.left.den c.args.right.den c.in_ok-common.common.den c.in_ok-common.common.from_right common.0
    common.1 common.4 ∙ common.4))
    c.in_ok-terms.ensures.value)

pub rise-by_left-requires : goal.rise-by_left-requires
rise-by_left-requires c =
    let x = c.requires.3.degree_is in
    let y = c.requires.4.degree_is in
    let low = c.requires.2.low in
    let most = c.max-degree.ensures in
    (omega arith, omega arith)

pub rise-by_right-requires : goal.rise-by_right-requires
rise-by_right-requires c =
    let x = c.requires.3.degree_is in
    let y = c.requires.4.degree_is in
    let low = c.requires.2.low in
    let most = c.max-degree.ensures in
    (omega arith, omega arith)
