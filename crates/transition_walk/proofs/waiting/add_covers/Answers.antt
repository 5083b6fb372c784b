use Rattle.std.proofs.Common.{◌≡◌, ℕ, ◌-◌, List, [], ◌++◌, take, sym, ap, ◌∙◌, subst}
use Rattle.transition_walk.specs.Waiting.{Joins, WaitingOverflows, each_waits}
use Rattle.transition_walk.proofs.JoinedLists.{joins_none, each_popped}
use Rattle.transition_walk.proofs.waiting.add_covers.Goals as goal
use Rattle.std.proofs.lemmas.Result.{on_ok_weaker}

pub returns-in-Some-clause-joins : goal.returns-in-Some-clause-joins
returns-in-Some-clause-joins g c =
    on_ok_weaker c.give_to_last.result (subst (λ more. Joins c.args.todo.now.items more c.give_to_last.new.todo.items)
    (each_popped c.args.list c.args.covers.items c.pop.new.self.items c.in-Some.last
    c.in-Some.ensures.items)) c.give_to_last.ensures.joins

pub returns-in-Some-clause-large : goal.returns-in-Some-clause-large
returns-in-Some-clause-large g c err =
    subst (WaitingOverflows c.args.todo.now.items)
    (each_popped c.args.list c.args.covers.items c.pop.new.self.items c.in-Some.last
    c.in-Some.ensures.items)
    (c.give_to_last.ensures.large err)

pub returns-in-None-clause-joins : goal.returns-in-None-clause-joins
returns-in-None-clause-joins g c =
    let none : c.args.covers.items ≡ [] =
    c.in-None.ensures.items
    ∙ ap (λ (l : List (List ℕ)). l ++ [])
    (c.in-None.ensures.rest ∙ ap (λ k. take (k - 1) c.args.covers.items)
    c.in-None.ensures.cases.0) in
    subst (λ (xs : List (List ℕ)). Joins c.args.todo.now.items (each_waits c.args.list xs)
    c.args.todo.now.items) (sym none) (joins_none c.args.todo.now.items)
