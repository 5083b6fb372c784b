use Rattle.transition_walk.proofs.GivenLists.{given_gains, given_overflow}
use Rattle.transition_walk.proofs.waiting.add_given.Goals as goal
use Rattle.std.proofs.lemmas.Result.{on_ok_weaker}

pub returns-clause-gains : goal.returns-clause-gains
returns-clause-gains g c =
    on_ok_weaker c.add_terms-2.result (λ gains. given_gains c.args.sum.now c.args.list _ _ c.add_terms-2.new.self
    c.replace-shorter.ensures.value c.replace-shorter.ensures.after gains) c.add_terms-2.ensures.gains

pub returns-clause-large : goal.returns-clause-large
returns-clause-large g c err =
    given_overflow g.met.L.Eq.laws g.met.L.Label.same_label c.args.sum.now c.args.list _ _
    c.replace-shorter.ensures.value c.replace-shorter.ensures.after c.len-2.ensures.combination
    (c.add_terms-2.ensures.large err)
