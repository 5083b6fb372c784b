use Rattle.std.proofs.lemmas.Result.{on_ok_weaker}
use Rattle.std.proofs.lemmas.List.Elements.{All-same}
use Rattle.prefix_walk.specs.Levels.{IsStep}
use Rattle.prefix_walk.proofs.RecordLists.{steps_both}
use Rattle.prefix_walk.proofs.steps.add_steps.Goals as goal

pub returns-clause-steps : goal.returns-clause-steps
returns-clause-steps g c =
    let at = g.P.Prefixes.is_state c.args.rule.now c.args.after in
    let end = g.P.Prefixes.end c.args.rule.now in
    on_ok_weaker c.add_all.result
    (λ h old. h c.args.after (All-same (IsStep at end) _ _ c.deref.ensures.value (steps_both at end c.steps.new.steps.items c.in_ok-steps.ensures.states c.in_ok-steps.ensures.entries)) old)
    c.add_all.ensures.steps
