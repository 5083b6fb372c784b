use Rattle.std.proofs.Common.{◌≡◌, [], ◌∷◌, ◌++◌, map, refl, sym, ap, subst, ◌∙◌, List, ℕ, ℤ, ◌+ℤ◌, ◌*ℤ◌}
use Rattle.std.specs.Prelude.{Err}
use Rattle.std.specs.Map.Iter.{deref_pair}
use Rattle.std.proofs.lemmas.List.{map-append}
use Rattle.sym_model.specs.Polynomial.{pair}
use Rattle.sym_model.specs.Schubert.{schubert_in}
use Rattle.sym_model.specs.WholeTerms.{WholeTerms}
use Rattle.linear_combinations.proofs.Steps.{error_is, all_done}
use Rattle.linear_combinations.specs.Gains.{over}
use Rattle.linear_combinations.proofs.Gains.{over_append, all_pairs, so_far_next}
use Rattle.stanley_expand.specs.Walk.{IsWorkedOff, WaitsAt}
use Rattle.stanley_expand.proofs.Tables.{none_step, both_steps, large_count, next_among}
use Rattle.stanley_expand.proofs.walk.work_off_each.Goals as goal
use lib.IntN.{+ℤ_idr}

pub loop-perm-init : goal.loop-perm-init
loop-perm-init c = record {
  step = none_step c.args.rows c.args.sum.now c.args.todo.now.items
      (λ φ. over (λ p. pair (schubert_in p c.args.rows) φ) []) (λ φ. refl);
  so_far = refl;
}

pub work_off-requires-clause-waiting : goal.work_off-requires-clause-waiting
work_off-requires-clause-waiting c =
    subst (λ n. WaitsAt c.args.rows n c.in-Some.perm.now)
    (sym c.loop-perm.invariant.step.tables) (c.requires.waiting _ (next_among {A = List ℕ × ℤ} (map deref_pair c.loop-perm.yielded) c.next.new.self c.args.counts.now
    (c.in-Some.perm.now, c.in-Some.count.now) (all_pairs (map deref_pair c.loop-perm.yielded) c.next.new.self c.loop-perm.perm-iterator _ _
    c.args.counts.now (c.in-Some.perm.now, c.in-Some.count.now) c.in-Some.ensures.steps
    c.loop-perm.invariant.so_far
    c.into_iter-perm-iterator.ensures.into_iter_gives c.iter-perm-items.ensures.rest)))

pub work_off-requires-clause-counts : goal.work_off-requires-clause-counts
work_off-requires-clause-counts c = c.requires.counts _ (next_among {A = List ℕ × ℤ} (map deref_pair c.loop-perm.yielded) c.next.new.self c.args.counts.now
    (c.in-Some.perm.now, c.in-Some.count.now) (all_pairs (map deref_pair c.loop-perm.yielded) c.next.new.self c.loop-perm.perm-iterator _ _
    c.args.counts.now (c.in-Some.perm.now, c.in-Some.count.now) c.in-Some.ensures.steps
    c.loop-perm.invariant.so_far
    c.into_iter-perm-iterator.ensures.into_iter_gives c.iter-perm-items.ensures.rest))

pub loop-perm-preserved : goal.loop-perm-preserved
loop-perm-preserved c =
    let done = map deref_pair c.loop-perm.yielded in
    let pushed : done ++ (c.in-Some.perm.now, c.in-Some.count.now) ∷ [] ≡ map deref_pair
    (c.loop-perm.yielded ++ (c.in-Some.perm, c.in-Some.count) ∷ []) =
    sym (map-append deref_pair c.loop-perm.yielded ((c.in-Some.perm, c.in-Some.count) ∷ [])) in
    record {
      step = both_steps c.args.rows c.args.sum.now c.args.todo.now.items
          (λ φ. over (λ p. pair (schubert_in p c.args.rows) φ) (map deref_pair c.loop-perm.yielded))
          c.loop-perm.sum c.loop-perm.todo.items
          (λ φ. c.in-Some.count.now *ℤ pair (schubert_in c.in-Some.perm.now c.args.rows) φ)
          c.work_off.new.sum c.work_off.new.todo.items
          (λ φ. over (λ p. pair (schubert_in p c.args.rows) φ) (map deref_pair
          (c.loop-perm.yielded ++ (c.in-Some.perm, c.in-Some.count) ∷ [])))
          (λ φ. one_more φ pushed) c.loop-perm.invariant.step c.in_ok-work_off.ensures.step;
      so_far = so_far_next done c.next.new.self c.loop-perm.perm-iterator _ _ (
        c.in-Some.perm.now,
        c.in-Some.count.now,
      ) pushed c.in-Some.ensures.steps c.loop-perm.invariant.so_far;
    }
  where
    one_more : (φ : List ℕ → ℤ) {next : WholeTerms} → map deref_pair c.loop-perm.yielded ++ (c.in-Some.perm.now, c.in-Some.count.now) ∷ [] ≡ next
        → over (λ p. pair (schubert_in p c.args.rows) φ) (map deref_pair c.loop-perm.yielded) +ℤ c.in-Some.count.now *ℤ pair (schubert_in c.in-Some.perm.now c.args.rows) φ
        ≡ over (λ p. pair (schubert_in p c.args.rows) φ) next
    one_more φ e =
        ap (λ z. over (λ p. pair (schubert_in p c.args.rows) φ) (map deref_pair c.loop-perm.yielded) +ℤ z) (sym (+ℤ_idr (c.in-Some.count.now *ℤ pair (schubert_in c.in-Some.perm.now c.args.rows) φ)))
        ∙ sym (over_append (λ p. pair (schubert_in p c.args.rows) φ) (map deref_pair c.loop-perm.yielded) ((c.in-Some.perm.now, c.in-Some.count.now) ∷ []))
        ∙ ap (over (λ p. pair (schubert_in p c.args.rows) φ)) e

pub returns-in_err-work_off-clause-large : goal.returns-in_err-work_off-clause-large
returns-in_err-work_off-clause-large c err =
    large_count c.args.rows c.args.sum.now c.loop-perm.sum c.args.todo.now.items
    c.loop-perm.todo.items (map deref_pair c.loop-perm.yielded) c.next.new.self c.args.counts.now
    (c.in-Some.perm.now, c.in-Some.count.now) (all_pairs (map deref_pair c.loop-perm.yielded) c.next.new.self c.loop-perm.perm-iterator _ _
    c.args.counts.now (c.in-Some.perm.now, c.in-Some.count.now) c.in-Some.ensures.steps
    c.loop-perm.invariant.so_far
    c.into_iter-perm-iterator.ensures.into_iter_gives c.iter-perm-items.ensures.rest)
    (λ t i. (c.requires.waiting t i).rising) c.requires.counts c.loop-perm.invariant.step
    (c.in_err-work_off.ensures.large (ap Err (error_is _ _ _ c.from_residual.ensures.1 err)))

pub returns-clause-step : goal.returns-clause-step
returns-clause-step c =
    subst (λ l. IsWorkedOff c.args.rows c.args.sum.now c.args.todo.now.items
    (λ φ. over (λ p. pair (schubert_in p c.args.rows) φ) l) c.loop-perm.sum c.loop-perm.todo.items)
    (all_done (map deref_pair c.loop-perm.yielded) c.loop-perm.perm-iterator _ _
    c.in-None.ensures.steps.0 c.loop-perm.invariant.so_far
    (c.into_iter-perm-iterator.ensures.into_iter_gives ∙ c.iter-perm-items.ensures.rest))
    c.loop-perm.invariant.step
