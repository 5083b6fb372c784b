use Rattle.linear_combinations.specs.Gains.{replaced}
use Rattle.linear_combinations.proofs.Masses.{on_both}
use Rattle.transition_walk.proofs.JoinedLists.{joined, joined_overflow}
use Rattle.transition_walk.proofs.waiting.add_waiting_by.Goals as goal

pub returns-clause-joins : goal.returns-clause-joins
returns-clause-joins g c =
    on_both c.add_by.result c.add_by.ensures.gains c.add_by.ensures.table
    (λ gains table. joined c.args.todo.now.items c.entry_at.new.todo.items c.args.perm
    c.new-none.result c.new-none.ensures c.in_ok-at.ensures.list c.in_ok-at.at
    c.index_mut-waiting.result.now
    c.in_ok-at.ensures.found.0 c.index_mut-waiting.ensures.value
    (c.in_ok-at.ensures.found.1 c.index_mut-waiting.result.now
    c.index_mut-waiting.ensures.value) c.in_ok-at.ensures.order
    c.add_by.new.self (replaced (g.F.Rule.image c.args.factor.now) c.args.list.now)
    g.met.L.Label.same_label g.met.L.Eq.laws table gains)

pub returns-clause-large : goal.returns-clause-large
returns-clause-large g c err =
    joined_overflow c.args.todo.now.items c.entry_at.new.todo.items c.args.perm c.new-none.result
    c.new-none.ensures c.in_ok-at.ensures.list c.in_ok-at.at c.index_mut-waiting.result.now
    c.in_ok-at.ensures.found.0 c.index_mut-waiting.ensures.value
    (c.in_ok-at.ensures.found.1 c.index_mut-waiting.result.now
    c.index_mut-waiting.ensures.value) c.in_ok-at.ensures.order
    c.add_by.new.self (replaced (g.F.Rule.image c.args.factor.now) c.args.list.now)
    g.met.L.Label.same_label (c.add_by.ensures.large err)
