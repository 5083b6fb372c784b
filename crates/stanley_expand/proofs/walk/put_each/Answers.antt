use Rattle.std.proofs.Common.{◌≡◌, ◌<◌, ℕ, List, ◌++◌, [], ◌∷◌, append_assoc, append-nil, sym, ap, ◌∙◌}
use Rattle.std.proofs.Common.{subst, rules, arith, ◌+ℤ◌, ◌*ℤ◌, ℤ}
use Rattle.std.specs.Prelude.{Err}
use Rattle.std.proofs.lemmas.Grind.{common_steps}
use Rattle.std.specs.Vec.Iter.{into_iter_items}
use Rattle.sym_model.specs.Polynomial.{pair}
use Rattle.sym_model.specs.Schubert.{schubert_in}
use Rattle.sym_model.specs.Sum.{total}
use Rattle.sym_model.proofs.Ring.{distributes_left}
use Rattle.sym_model.proofs.Sums.{total_append}
use Rattle.linear_combinations.proofs.Steps.{error_is}
use Rattle.stanley_expand.specs.Walk.{IsWorkedOff, number}
use Rattle.stanley_expand.proofs.Tables.{none_step, both_steps, large_perm, still_all, next_among}
use Rattle.stanley_expand.proofs.walk.put_each.Goals as goal
use lib.IntN.{*ℤ-zero, +ℤ_idr}

pub loop-perm-init : goal.loop-perm-init
loop-perm-init c = record {
  step = λ sum. none_step c.args.rows sum c.args.todo.now.items
      (λ φ. c.args.count *ℤ total (λ p. pair (schubert_in p c.args.rows) φ) []) (λ φ. *ℤ-zero c.args.count);
  so_far = search rules;
}

pub put-requires-clause-rising : goal.put-requires-clause-rising
put-requires-clause-rising c = (c.requires.waiting c.in-Some.perm (next_among c.loop-perm.yielded
    (into_iter_items c.next.new.self) c.args.perms.items c.in-Some.perm
    (still_all c.loop-perm.yielded (into_iter_items c.next.new.self)
    (into_iter_items c.loop-perm.perm-iterator) c.args.perms.items c.in-Some.perm
    c.in-Some.ensures.steps.0 c.loop-perm.invariant.so_far))).0

pub put-requires-clause-table : goal.put-requires-clause-table
put-requires-clause-table c = subst (λ n. number c.args.rows c.in-Some.perm < n)
    (sym (c.loop-perm.invariant.step []).tables) (c.requires.waiting c.in-Some.perm (next_among c.loop-perm.yielded
    (into_iter_items c.next.new.self) c.args.perms.items c.in-Some.perm
    (still_all c.loop-perm.yielded (into_iter_items c.next.new.self)
    (into_iter_items c.loop-perm.perm-iterator) c.args.perms.items c.in-Some.perm
    c.in-Some.ensures.steps.0 c.loop-perm.invariant.so_far))).1

pub loop-perm-preserved : goal.loop-perm-preserved
loop-perm-preserved c = record {
  step = λ sum. both_steps c.args.rows sum c.args.todo.now.items
      (λ φ. c.args.count *ℤ total (λ p. pair (schubert_in p c.args.rows) φ) c.loop-perm.yielded) sum
      c.loop-perm.todo.items (λ φ. c.args.count *ℤ pair (schubert_in c.in-Some.perm c.args.rows) φ)
      sum c.put.new.todo.items
      (λ φ. c.args.count *ℤ total (λ p. pair (schubert_in p c.args.rows) φ)
      (c.loop-perm.yielded ++ c.in-Some.perm ∷ []))
      (λ φ. one_more φ) (c.loop-perm.invariant.step sum) (c.in_ok-put.ensures.step sum);
  so_far =
      append_assoc c.loop-perm.yielded (c.in-Some.perm ∷ []) (into_iter_items c.next.new.self)
      ∙ ap (λ (xs : List (List ℕ)). c.loop-perm.yielded ++ xs) (sym c.in-Some.ensures.steps.0)
      ∙ c.loop-perm.invariant.so_far;
}
  where
    one_more : (φ : List ℕ → ℤ) → c.args.count *ℤ total (λ p. pair (schubert_in p c.args.rows) φ) c.loop-perm.yielded +ℤ c.args.count *ℤ pair (schubert_in c.in-Some.perm c.args.rows) φ
        ≡ c.args.count *ℤ total (λ p. pair (schubert_in p c.args.rows) φ) (c.loop-perm.yielded ++ c.in-Some.perm ∷ [])
    one_more φ =
        sym (distributes_left c.args.count (total (λ p. pair (schubert_in p c.args.rows) φ) c.loop-perm.yielded) (pair (schubert_in c.in-Some.perm c.args.rows) φ))
        ∙ ap (λ z. c.args.count *ℤ (total (λ p. pair (schubert_in p c.args.rows) φ) c.loop-perm.yielded +ℤ z)) (sym (+ℤ_idr (pair (schubert_in c.in-Some.perm c.args.rows) φ)))
        ∙ ap (λ z. c.args.count *ℤ z) (sym (total_append (λ p. pair (schubert_in p c.args.rows) φ) c.loop-perm.yielded (c.in-Some.perm ∷ [])))

pub returns-in_err-put-clause-large : goal.returns-in_err-put-clause-large
returns-in_err-put-clause-large c err sum =
    large_perm c.args.rows c.args.count sum c.args.todo.now.items c.loop-perm.todo.items
    c.loop-perm.yielded (into_iter_items c.next.new.self) c.args.perms.items c.in-Some.perm
    c.requires.counts (still_all c.loop-perm.yielded (into_iter_items c.next.new.self)
    (into_iter_items c.loop-perm.perm-iterator) c.args.perms.items c.in-Some.perm
    c.in-Some.ensures.steps.0 c.loop-perm.invariant.so_far) (λ x i. (c.requires.waiting x i).0)
    (c.loop-perm.invariant.step sum)
    (c.in_err-put.ensures.large (ap Err (error_is _ _ _ c.from_residual.ensures.1 err)) sum)

pub returns-clause-step : goal.returns-clause-step
returns-clause-step c sum =
    let none : into_iter_items c.loop-perm.perm-iterator ≡ [] = grind (arith, common_steps) in
    let all : c.loop-perm.yielded ≡ c.args.perms.items =
    sym (append-nil c.loop-perm.yielded) ∙ ap (λ (xs : List (List ℕ)). c.loop-perm.yielded ++ xs)
    (sym none) ∙ c.loop-perm.invariant.so_far in
    subst (λ (xs : List (List ℕ)). IsWorkedOff c.args.rows sum c.args.todo.now.items
    (λ φ. c.args.count *ℤ total (λ p. pair (schubert_in p c.args.rows) φ) xs) sum
    c.loop-perm.todo.items) all (c.loop-perm.invariant.step sum)
