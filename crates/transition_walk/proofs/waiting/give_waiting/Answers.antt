use Rattle.std.proofs.Common.{◌∙◌, sym, subst, ◌≤◌, length}
use Rattle.std.proofs.lemmas.Option.{get_or_from_slice_get}
use Rattle.linear_combinations.specs.Gains.{RefusesFirst}
use Rattle.linear_combinations.proofs.Masses.{on_both}
use Rattle.transition_walk.proofs.JoinedLists.{joined, joined_overflow}
use Rattle.transition_walk.proofs.waiting.give_waiting.Goals as goal

pub returns-clause-joins : goal.returns-clause-joins
returns-clause-joins g c =
    on_both c.add_given.result c.add_given.ensures.gains c.add_given.ensures.table
    (λ gains table. joined c.args.todo.now.items c.entry_at.new.todo.items c.args.perm
    c.new-none.result c.new-none.ensures c.in_ok-at.ensures.list c.in_ok-at.at
    c.index_mut-waiting.result.now
    c.in_ok-at.ensures.found.0 c.index_mut-waiting.ensures.value
    (c.in_ok-at.ensures.found.1 c.index_mut-waiting.result.now
    c.index_mut-waiting.ensures.value) c.in_ok-at.ensures.order
    c.add_given.new.sum c.args.list g.met.L.Label.same_label g.met.L.Eq.laws table gains)

pub returns-clause-large : goal.returns-clause-large
returns-clause-large g c err =
    joined_overflow c.args.todo.now.items c.entry_at.new.todo.items c.args.perm c.new-none.result
    c.new-none.ensures c.in_ok-at.ensures.list c.in_ok-at.at c.index_mut-waiting.result.now
    c.in_ok-at.ensures.found.0 c.index_mut-waiting.ensures.value
    (c.in_ok-at.ensures.found.1 c.index_mut-waiting.result.now
    c.index_mut-waiting.ensures.value) c.in_ok-at.ensures.order
    c.add_given.new.sum c.args.list g.met.L.Label.same_label (c.add_given.ensures.large err)

pub returns-in_err-at-clause-past : goal.returns-in_err-at-clause-past
returns-in_err-at-clause-past g c r short = absurd (c.in_err-at.ensures.there r.ordered r.entry r.waits r.same)

pub returns-clause-past : goal.returns-clause-past
returns-clause-past g c r short =
    let here = c.index_mut-waiting.ensures.value
    ∙ get_or_from_slice_get c.entry_at.new.todo.items c.in_ok-at.at r.entry
    c.index_mut-waiting.result.now (c.in_ok-at.ensures.there r.ordered r.entry r.waits r.same) in
    c.add_given.ensures.past (subst (λ x. length c.args.list ≤ length x.factor) (sym here) short)
    (subst (λ x. RefusesFirst g.L.PartialEq.eq x.factor c.args.list) (sym here) r.refuses)
