use Rattle.std.proofs.Common.{◌≡◌, ◌∷◌, [], ◌∙◌, sym, ap, subst, arith}
use Rattle.std.specs.Prelude.{Err, neg_ℤ}
use Rattle.coeff_rings.proofs.Sizes.{refused_size}
use Rattle.linear_combinations.proofs.Steps.{error_is}
use Rattle.linear_combinations.specs.Gains.{Gains, Overflows}
use Rattle.fraction_laws.proofs.Whole.{whole_fitted}
use Rattle.linear_combinations.proofs.Gains.{gains_none, labels_gain, labels_overflow}
use Rattle.linear_combinations.proofs.Gains.{overflows_alone, each_all}
use Rattle.linear_combinations.proofs.whole.Lin+L+Int.subtract_each.Goals as goal

pub loop-label-init : goal.loop-label-init
loop-label-init g c = gains_none c.args.self.now

pub loop-label-preserved : goal.loop-label-preserved
loop-label-preserved g c =
    let less : c.in_ok-less.less ≡ neg_ℤ c.args.c = whole_fitted (neg_ℤ c.args.c) c.in_ok-less.less
    (sym c.neg.ensures.negation ∙ c.in_ok-less.ensures.ok_part) in
    labels_gain (neg_ℤ c.args.c) c.args.labels.now c.loop-label.label-index c.label-item.result
    (omega arith) c.label-item.is c.args.self.now c.loop-label.self c.loop-label.invariant
    c.add_at_label.new.self (subst (λ z. Gains c.loop-label.self ((c.label-item.result, z) ∷ [])
    c.add_at_label.new.self) less c.in_ok-add_at_label.ensures.gains)

pub returns-in_err-add_at_label-clause-large : goal.returns-in_err-add_at_label-clause-large
returns-in_err-add_at_label-clause-large g c err =
    let less : c.in_ok-less.less ≡ neg_ℤ c.args.c = whole_fitted (neg_ℤ c.args.c) c.in_ok-less.less
    (sym c.neg.ensures.negation ∙ c.in_ok-less.ensures.ok_part) in
    labels_overflow (neg_ℤ c.args.c) c.args.labels.now c.loop-label.label-index c.label-item.result
    (omega arith) c.label-item.is c.args.self.now c.loop-label.self c.loop-label.invariant
    g.L.PartialEq.eq (subst (λ z. Overflows g.L.PartialEq.eq c.loop-label.self
    ((c.label-item.result, z) ∷ [])) less (c.in_err-add_at_label.ensures.large
    (ap Err (error_is _ _ _ c.from_residual-in_err-add_at_label.ensures.1 err))))

pub returns-in_err-less-clause-large : goal.returns-in_err-less-clause-large
returns-in_err-less-clause-large g c err =
    labels_overflow (neg_ℤ c.args.c) c.args.labels.now c.loop-label.label-index c.label-item.result
    (omega arith) c.label-item.is c.args.self.now c.loop-label.self c.loop-label.invariant
    g.L.PartialEq.eq (overflows_alone g.met.L.Eq.laws g.met.L.Label.same_label c.loop-label.self
    c.label-item.result (neg_ℤ c.args.c) (refused_size (neg_ℤ c.args.c)
    (sym c.neg.ensures.negation ∙ c.in_err-less.ensures.ok_part)))

pub returns-clause-gains : goal.returns-clause-gains
returns-clause-gains g c = subst (λ l. Gains c.args.self.now l c.loop-label.self)
    (each_all (neg_ℤ c.args.c) c.args.labels.now c.loop-label.label-index (omega arith))
    c.loop-label.invariant
