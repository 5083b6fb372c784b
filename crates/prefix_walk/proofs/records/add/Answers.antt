use Rattle.std.proofs.lemmas.List.Elements.{All-same, All-push}
use Rattle.prefix_walk.specs.Levels.{IsStep}
use Rattle.prefix_walk.proofs.RecordLists.{steps_kept}
use Rattle.prefix_walk.proofs.records.add.Goals as goal

pub returns-in-Some-clause-steps : goal.returns-in-Some-clause-steps
returns-in-Some-clause-steps g c = λ n s all.
    steps_kept (IsStep (g.P.Prefixes.is_state c.args.rule.now n) (g.P.Prefixes.end c.args.rule.now)) c.args.records.now.items c.add_at.new.records.items c.add_at.ensures.keys all

pub returns-clause-steps : goal.returns-clause-steps
returns-clause-steps g c = λ n s all.
    All-same (λ r. IsStep (g.P.Prefixes.is_state c.args.rule.now n) (g.P.Prefixes.end c.args.rule.now) r.0) _ _ c.in_ok-push.ensures.items
    (All-push (λ r. IsStep (g.P.Prefixes.is_state c.args.rule.now n) (g.P.Prefixes.end c.args.rule.now) r.0) _ _ all s)
