use Rattle.std.proofs.Common.{rules, of_calls}
use Rattle.std.proofs.lemmas.Fn.{always_returns_same}
use Rattle.transition_walk.specs.Todo.{waiting_order}
use Rattle.transition_walk.proofs.WaitingOrder.{found_place, found_gap, found_absent}
use Rattle.transition_walk.proofs.todo.place_of.Goals as goal

pub returns-clause-place : goal.returns-clause-place
returns-clause-place g c =
    found_place c.args.todo.now c.args.perm.now c.binary_search_by.result
    c.binary_search_by.ensures.bound
    (c.binary_search_by.ensures.position (λ w. waiting_order w.perm c.args.perm.now)
    (always_returns_same _ _ _ (λ a r f called. search (rules, of_calls))))

pub returns-clause-gap : goal.returns-clause-gap
returns-clause-gap g c =
    found_gap c.args.todo.now c.args.perm.now c.binary_search_by.result
    (c.binary_search_by.ensures.position (λ w. waiting_order w.perm c.args.perm.now)
    (always_returns_same _ _ _ (λ a r f called. search (rules, of_calls))))

pub returns-clause-absent : goal.returns-clause-absent
returns-clause-absent g c = found_absent c.args.todo.now c.args.perm.now c.binary_search_by.result
    (returns-clause-gap g c)
