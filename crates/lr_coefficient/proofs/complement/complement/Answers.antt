use Rattle.std.proofs.Common.{◌-◌, ap, ◌∙◌, arith}
use Rattle.lr_coefficient.proofs.TurnedSteps.{turned-none, turned-more}
use Rattle.lr_coefficient.proofs.complement.complement.Goals as goal

pub loop-at-init : goal.loop-at-init
loop-at-init c = c.in_ok-numbers.ensures.items ∙ turned-none c.args.width c.args.k c.from-at.result _ c.from-at.ensures

pub loop-at-preserved : goal.loop-at-preserved
loop-at-preserved c =
    let h = c.loop-at-test.true in
    let a = c.loop-at.auto.at in
    let e = c.from-at.ensures in
    turned-more c.args.width c.args.k (c.loop-at.at - 1) c.loop-at.at c.saturating_sub.result _ c.loop-at.numbers.items c.push.new.self.items
    (omega arith) (omega arith) (c.saturating_sub.ensures ∙ ap (λ x. c.args.width - x) c.number_at.ensures) c.loop-at.invariant c.in_ok-push.ensures.ok
