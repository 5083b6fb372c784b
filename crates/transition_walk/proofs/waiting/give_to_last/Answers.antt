use Rattle.std.proofs.Common.{[], ◌∷◌, ap}
use Rattle.std.specs.Prelude.{Err}
use Rattle.linear_combinations.proofs.Steps.{error_is}
use Rattle.transition_walk.specs.Waiting.{each_waits}
use Rattle.transition_walk.proofs.JoinedLists.{joins_both, overflows_both, overflows_more}
use Rattle.transition_walk.proofs.waiting.give_to_last.Goals as goal
use Rattle.std.proofs.lemmas.Result.{on_ok_weaker}

pub returns-clause-joins : goal.returns-clause-joins
returns-clause-joins g c =
    on_ok_weaker c.give_waiting.result (joins_both c.args.todo.now.items (each_waits c.args.list c.args.covers.items)
    c.add_to_each.new.todo.items ((record { perm = c.args.last; factor = c.args.list }) ∷ [])
    c.give_waiting.new.todo.items
    c.in_ok-add_to_each.ensures.joins) c.give_waiting.ensures.joins

pub returns-clause-large : goal.returns-clause-large
returns-clause-large g c err =
    overflows_both c.args.todo.now.items (each_waits c.args.list c.args.covers.items)
    c.add_to_each.new.todo.items ((record { perm = c.args.last; factor = c.args.list }) ∷ [])
    c.in_ok-add_to_each.ensures.joins (c.give_waiting.ensures.large err)

pub returns-in_err-add_to_each-clause-large : goal.returns-in_err-add_to_each-clause-large
returns-in_err-add_to_each-clause-large g c err =
    overflows_more c.args.todo.now.items (each_waits c.args.list c.args.covers.items)
    ((record { perm = c.args.last; factor = c.args.list }) ∷ [])
    (c.in_err-add_to_each.ensures.large (ap Err (error_is _ _ _ c.from_residual.ensures.1 err)))
