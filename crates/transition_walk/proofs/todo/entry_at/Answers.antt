use Rattle.std.proofs.Common.{ap, inr, arith, length}
use Rattle.transition_walk.proofs.TodoLists.{has_inserted}
use Rattle.transition_walk.proofs.WaitingOrder.{order_insert, found_there, not_absent}
use Rattle.transition_walk.proofs.todo.entry_at.Goals as goal

pub returns-in_ok-insert-in-Err-clause-found : goal.returns-in_ok-insert-in-Err-clause-found
returns-in_ok-insert-in-Err-clause-found g c =
    has_inserted c.args.todo.now.items c.insert.new.self.items c.in-Err.at _
    (omega (arith, c.in-Err.ensures.place, ap length c.as_slice.ensures.value))
    c.in_ok-insert-in-Err.ensures.items

pub returns-in_ok-insert-in-Err-clause-list : goal.returns-in_ok-insert-in-Err-clause-list
returns-in_ok-insert-in-Err-clause-list g c = inr (c.in-Err.at, c.in_ok-insert-in-Err.ensures.items)

pub returns-in_ok-insert-in-Err-clause-order : goal.returns-in_ok-insert-in-Err-clause-order
returns-in_ok-insert-in-Err-clause-order g c =
    order_insert c.args.todo.now.items c.as_slice.result.now c.insert.new.self.items c.in-Err.at _
    c.as_slice.ensures.value c.in-Err.ensures.place c.in-Err.ensures.gap
    c.in_ok-insert-in-Err.ensures.items

pub returns-in-Ok-clause-there : goal.returns-in-Ok-clause-there
returns-in-Ok-clause-there g c =
    found_there c.args.todo.now.items c.as_slice.result.now c.args.perm c.in-Ok.at
    c.as_slice.ensures.value c.in-Ok.ensures.place

pub returns-in_ok-insert-in-Err-clause-there : goal.returns-in_ok-insert-in-Err-clause-there
returns-in_ok-insert-in-Err-clause-there g c order w m is =
    absurd (not_absent c.args.todo.now.items c.as_slice.result.now c.args.perm
    c.as_slice.ensures.value c.in-Err.ensures.absent order w m is)

pub returns-in_err-insert-in-Err-clause-there : goal.returns-in_err-insert-in-Err-clause-there
returns-in_err-insert-in-Err-clause-there g c order w m is =
    absurd (not_absent c.args.todo.now.items c.as_slice.result.now c.args.perm
    c.as_slice.ensures.value c.in-Err.ensures.absent order w m is)
