use Rattle.std.proofs.Common.{sym, subst}
use Rattle.std.proofs.lemmas.List.Elements.{All-get_or}
use Rattle.prefix_walk.specs.Levels.{IsStep, weighed_at}
use Rattle.prefix_walk.proofs.RecordLists.{steps_more}
use Rattle.prefix_walk.proofs.records.add_all.Goals as goal

pub loop-step-preserved : goal.loop-step-preserved
loop-step-preserved g c = record {
  steps = λ n s all.
      let P = IsStep (g.P.Prefixes.is_state c.args.rule.now n) (g.P.Prefixes.end c.args.rule.now) in
      c.in_ok-add.ensures.steps n (subst P (sym c.step-item.is) (All-get_or P c.args.steps.now c.loop-step.step-index c.step-item.result c.loop-step-test.true s)) (c.loop-step.invariant.steps n s all);
  adds = λ a f.
      steps_more a f c.args.steps.now c.loop-step.step-index c.step-item.result (weighed_at a f c.add.new.records.items) (weighed_at a f c.loop-step.records.items)
      (weighed_at a f c.args.records.now.items) c.args.count c.loop-step-test.true c.step-item.is (c.in_ok-add.ensures.adds a f) (c.loop-step.invariant.adds a f);
}
