use Rattle.std.proofs.Common.{ap, subst, arith}
use Rattle.std.specs.Prelude.{Err}
use Rattle.linear_combinations.proofs.Steps.{error_is}
use Rattle.linear_combinations.specs.Gains.{Gains}
use Rattle.linear_combinations.proofs.Gains.{gains_none, labels_gain, labels_overflow, each_all}
use Rattle.linear_combinations.proofs.whole.Lin+L+Int.add_each.Goals as goal

pub loop-label-init : goal.loop-label-init
loop-label-init g c = gains_none c.args.self.now

pub loop-label-preserved : goal.loop-label-preserved
loop-label-preserved g c =
    labels_gain c.args.c c.args.labels.now c.loop-label.label-index c.label-item.result
    (omega arith) c.label-item.is c.args.self.now c.loop-label.self c.loop-label.invariant
    c.add_at_label.new.self c.in_ok-add_at_label.ensures.gains

pub returns-in_err-add_at_label-clause-large : goal.returns-in_err-add_at_label-clause-large
returns-in_err-add_at_label-clause-large g c err =
    labels_overflow c.args.c c.args.labels.now c.loop-label.label-index c.label-item.result
    (omega arith) c.label-item.is c.args.self.now c.loop-label.self c.loop-label.invariant
    g.L.PartialEq.eq (c.in_err-add_at_label.ensures.large
    (ap Err (error_is _ _ _ c.from_residual.ensures.1 err)))

pub returns-clause-gains : goal.returns-clause-gains
returns-clause-gains g c = subst (λ l. Gains c.args.self.now l c.loop-label.self)
    (each_all c.args.c c.args.labels.now c.loop-label.label-index (omega arith))
    c.loop-label.invariant
