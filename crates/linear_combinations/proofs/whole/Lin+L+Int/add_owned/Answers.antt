use Rattle.linear_combinations.proofs.Gains.{gains_term, overflows_term}
use Rattle.linear_combinations.proofs.whole.Lin+L+Int.add_owned.Goals as goal
use Rattle.std.proofs.lemmas.Result.{on_ok_weaker}

pub returns-clause-gains : goal.returns-clause-gains
returns-clause-gains g c =
    on_ok_weaker c.add_term.result (λ more. gains_term g.met.L.Eq.laws g.met.L.Label.same_label c.args.self.now c.add_term.new.self
    c.add_term.ensures.tables.before.combination c.add_term.ensures.tables.after.combination c.args.label c.args.c more) c.add_term.ensures.ok

pub returns-clause-large : goal.returns-clause-large
returns-clause-large g c err =
    overflows_term g.met.L.Eq.laws g.met.L.Label.same_label c.args.self.now
    c.add_term.ensures.tables.before.combination.distinct c.args.label c.args.c
    (c.add_term.ensures.large.0 err).refused
