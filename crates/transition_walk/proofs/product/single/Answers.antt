use Rattle.std.proofs.Common.{◌≡◌, ◌*◌, [], ◌∷◌, ap, inl, inr, arith, ◌*ℤ◌}
use Rattle.std.specs.Prelude.{Err, nat_abs}
use Rattle.std.proofs.lemmas.Int.{ints}
use Rattle.sym_model.proofs.Ring.{one-product}
use Rattle.linear_combinations.specs.Gains.{over, mass}
use Rattle.linear_combinations.proofs.Masses.{labels_gained, overflow_mass}
use Rattle.linear_combinations.proofs.Steps.{error_is}
use Rattle.transition_walk.proofs.Steps.{no_labels}
use Rattle.linear_combinations.specs.Gains.{weighed}
use Rattle.linear_combinations.proofs.Weighed.{gains_weighed}
use Rattle.transition_walk.proofs.product.single.Goals as goal

pub returns-clause-sums : goal.returns-clause-sums
returns-clause-sums g c φ =
    let a = c.in_ok-add_at_label.ensures.gains.sums φ in
    let b = ap (over φ) c.new-list.ensures in
    let d = ap (λ z. z *ℤ φ c.args.label.now) c.one.ensures.one in
    let e = one-product (φ c.args.label.now) in
    omega (arith, ints)

pub returns-clause-few : goal.returns-clause-few
returns-clause-few g c = record {
  one = λ f.
      let a = gains_weighed g.met.L.Label.same_label g.met.L.Eq.laws c.new-list.result
      ((c.args.label.now, c.one.result) ∷ []) c.add_at_label.new.self
      c.in_ok-add_at_label.ensures.table c.in_ok-add_at_label.ensures.gains f in
      let b = ap (weighed f) c.new-list.ensures in
      let d = ap (λ z. nat_abs z * f c.args.label.now) c.one.ensures.one in
      omega arith;
  labels =
      labels_gained g.met.L.Eq.laws g.met.L.Label.same_label c.new-list.result
      ((c.args.label.now, c.one.result) ∷ []) c.add_at_label.new.self
      c.in_ok-add_at_label.ensures.table c.in_ok-add_at_label.ensures.gains
      (λ x. x ≡ c.args.label.now) (no_labels (λ x. x ≡ c.args.label.now) c.new-list.result
      c.new-list.ensures)
      (λ t m. elim m [ inl e ↦ ap (λ u. u.0) e | inr k ↦ absurd k ]);
}

pub returns-in_err-add_at_label-clause-small : goal.returns-in_err-add_at_label-clause-small
returns-in_err-add_at_label-clause-small g c err =
    let a = overflow_mass g.L.PartialEq.eq c.new-list.result ((c.args.label.now, c.one.result) ∷ [])
    (c.in_err-add_at_label.ensures.large (ap Err (error_is _ _ _ c.from_residual.ensures.1 err))) in
    let b = ap mass c.new-list.ensures in
    let d = ap nat_abs c.one.ensures.one in
    absurd (omega arith)
