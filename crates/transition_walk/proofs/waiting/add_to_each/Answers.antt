use Rattle.std.proofs.Common.{◌≡◌, ℕ, List, ◌++◌, [], ◌∷◌, append_assoc, append-nil, sym, ap, ◌∙◌}
use Rattle.std.proofs.Common.{subst, rules, arith}
use Rattle.std.specs.Prelude.{Err}
use Rattle.std.proofs.lemmas.Grind.{common_steps}
use Rattle.std.specs.Vec.Iter.{into_iter_items}
use Rattle.linear_combinations.proofs.Steps.{error_is}
use Rattle.transition_walk.specs.Waiting.{Joins, WaitingOverflows, each_waits}
use Rattle.transition_walk.proofs.JoinedLists.{joins_none, joins_both, overflows_both}
use Rattle.transition_walk.proofs.JoinedLists.{overflows_more, each_append}
use Rattle.transition_walk.proofs.waiting.add_to_each.Goals as goal

pub loop-cover-init : goal.loop-cover-init
loop-cover-init g c = record { joins = joins_none c.args.todo.now.items; so_far = search rules }

pub loop-cover-preserved : goal.loop-cover-preserved
loop-cover-preserved g c = record {
  joins =
      subst (λ more. Joins c.args.todo.now.items more c.add_waiting.new.todo.items)
      (sym (each_append c.args.list.now c.loop-cover.yielded (c.in-Some.cover ∷ [])))
      (joins_both c.args.todo.now.items (each_waits c.args.list.now c.loop-cover.yielded)
      c.loop-cover.todo.items
      (each_waits c.args.list.now (c.in-Some.cover ∷ [])) c.add_waiting.new.todo.items
      c.loop-cover.invariant.joins c.in_ok-add_waiting.ensures.joins);
  so_far =
      append_assoc c.loop-cover.yielded (c.in-Some.cover ∷ []) (into_iter_items c.next.new.self)
      ∙ ap (λ (xs : List (List ℕ)). c.loop-cover.yielded ++ xs) (sym c.in-Some.ensures.steps.0)
      ∙ c.loop-cover.invariant.so_far;
}

pub returns-in_err-add_waiting-clause-large : goal.returns-in_err-add_waiting-clause-large
returns-in_err-add_waiting-clause-large g c err =
    subst (λ xs. WaitingOverflows c.args.todo.now.items (each_waits c.args.list.now xs))
    (append_assoc c.loop-cover.yielded (c.in-Some.cover ∷ []) (into_iter_items c.next.new.self)
    ∙ ap (λ (xs : List (List ℕ)). c.loop-cover.yielded ++ xs) (sym c.in-Some.ensures.steps.0)
    ∙ c.loop-cover.invariant.so_far)
    (subst (WaitingOverflows c.args.todo.now.items)
    (sym (each_append c.args.list.now (c.loop-cover.yielded ++ c.in-Some.cover ∷ [])
    (into_iter_items c.next.new.self)))
    (overflows_more c.args.todo.now.items (each_waits c.args.list.now
    (c.loop-cover.yielded ++ c.in-Some.cover ∷ [])) (each_waits c.args.list.now
    (into_iter_items c.next.new.self))
    (subst (WaitingOverflows c.args.todo.now.items)
    (sym (each_append c.args.list.now c.loop-cover.yielded (c.in-Some.cover ∷ [])))
    (overflows_both c.args.todo.now.items (each_waits c.args.list.now c.loop-cover.yielded)
    c.loop-cover.todo.items (each_waits c.args.list.now (c.in-Some.cover ∷ []))
    c.loop-cover.invariant.joins (c.in_err-add_waiting.ensures.large
    (ap Err (error_is _ _ _ c.from_residual.ensures.1 err)))))))

pub returns-clause-joins : goal.returns-clause-joins
returns-clause-joins g c =
    let none : into_iter_items c.loop-cover.cover-iterator ≡ [] = grind (arith, common_steps) in
    let all : c.loop-cover.yielded ≡ c.args.covers.items =
    sym (append-nil c.loop-cover.yielded) ∙ ap (λ (xs : List (List ℕ)). c.loop-cover.yielded ++ xs)
    (sym none) ∙ c.loop-cover.invariant.so_far in
    subst (λ (xs : List (List ℕ)). Joins c.args.todo.now.items (each_waits c.args.list.now xs)
    c.loop-cover.todo.items) all c.loop-cover.invariant.joins
