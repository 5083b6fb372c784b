use Rattle.std.proofs.Common.{◌+◌, ◌∙◌, [], ◌∷◌, length, length-append, subst, sym, ap, arith, ◌+ℤ◌, ◌*ℤ◌, pos, ◌≤ℤ◌}
use Rattle.std.proofs.lemmas.Int.{ints}
use Rattle.std.specs.Prelude.{Err}
use Rattle.std.proofs.lemmas.List.{length-replicate}
use Rattle.sym_model.specs.Polynomial.{pair}
use Rattle.sym_model.specs.Schubert.{schubert_in}
use Rattle.linear_combinations.specs.Gains.{over}
use Rattle.linear_combinations.proofs.Steps.{error_is}
use Rattle.stanley_expand.specs.Walk.{AreWaiting, AreShapes, walked}
use Rattle.stanley_expand.proofs.Tables.{popped_labels, popped_counts, popped_rest, popped_walked, large_same, empty_waiting, no_shapes, begun, start_walked}
use Rattle.stanley_expand.proofs.walk.by_transitions.Goals as goal

pub put-requires-clause-table : goal.put-requires-clause-table
put-requires-clause-table c =
    let l = ap length c.in_ok-todo.ensures ∙ length-replicate (c.number.result + 1) [] in
    let n = c.number.ensures.number in
    omega arith

pub put-requires-clause-counts : goal.put-requires-clause-counts
put-requires-clause-counts c = subst (λ z. pos 0 ≤ℤ z) (sym c.one.ensures.one)
    (omega (arith, ints))

-- if adding `start` to the empty tables overflows, some Schur coefficient of its Schubert polynomial is 2^127 or more, since no other permutation is
-- in the tables
pub returns-in_err-put-clause-large : goal.returns-in_err-put-clause-large
returns-in_err-put-clause-large c err =
    large_same c.args.rows (λ φ. walked c.args.rows φ [] c.in_ok-todo.todo.items
    +ℤ c.one.result *ℤ pair (schubert_in c.args.start c.args.rows) φ)
    (λ φ. pair (schubert_in c.args.start c.args.rows) φ)
    (λ φ. begun c.args.rows (c.number.result + 1) φ c.args.start c.one.result c.in_ok-todo.todo.items
    c.in_ok-todo.ensures c.one.ensures.one)
    (c.in_err-put.ensures.large (ap Err (error_is _ _ _ c.from_residual-in_err-put.ensures.1 err))
    [] (subst (AreWaiting c.args.rows) (sym c.in_ok-todo.ensures)
    (empty_waiting c.args.rows (c.number.result + 1))) (no_shapes c.args.rows))

pub loop-counts-init : goal.loop-counts-init
loop-counts-init c = record {
  value = λ φ. start_walked c.args.rows (c.number.result + 1) φ c.args.start c.one.result
      c.new-sum.result c.in_ok-todo.todo.items c.put.new.todo.items c.new-sum.ensures
      c.in_ok-todo.ensures c.one.ensures.one (c.in_ok-put.ensures.step c.new-sum.result);
  waiting = (c.in_ok-put.ensures.step c.new-sum.result).waiting
      (subst (AreWaiting c.args.rows) (sym c.in_ok-todo.ensures)
      (empty_waiting c.args.rows (c.number.result + 1)));
  shapes = subst (AreShapes c.args.rows) (sym c.new-sum.ensures) (no_shapes c.args.rows);
}

pub work_off_each-requires-clause-waiting : goal.work_off_each-requires-clause-waiting
work_off_each-requires-clause-waiting c =
    popped_labels c.args.rows c.loop-counts.todo.items c.pop.new.self.items c.in-Some.counts
    c.in-Some.ensures.items c.loop-counts.invariant.waiting

pub work_off_each-requires-clause-counts : goal.work_off_each-requires-clause-counts
work_off_each-requires-clause-counts c =
    popped_counts c.args.rows c.loop-counts.todo.items c.pop.new.self.items c.in-Some.counts
    c.in-Some.ensures.items c.loop-counts.invariant.waiting

pub returns-in_err-work_off_each-clause-large : goal.returns-in_err-work_off_each-clause-large
returns-in_err-work_off_each-clause-large c err =
    large_same c.args.rows (λ φ. walked c.args.rows φ c.loop-counts.sum c.pop.new.self.items
    +ℤ over (λ p. pair (schubert_in p c.args.rows) φ) c.in-Some.counts)
    (λ φ. pair (schubert_in c.args.start c.args.rows) φ)
    (λ φ. popped_walked c.args.rows c.loop-counts.todo.items c.pop.new.self.items c.in-Some.counts
    c.in-Some.ensures.items φ c.loop-counts.sum ∙ c.loop-counts.invariant.value φ)
    (c.in_err-work_off_each.ensures.large
    (ap Err (error_is _ _ _ c.from_residual-in_err-work_off_each.ensures.1 err))
    (popped_rest c.args.rows c.loop-counts.todo.items c.pop.new.self.items c.in-Some.counts
    c.in-Some.ensures.items c.loop-counts.invariant.waiting) c.loop-counts.invariant.shapes)

pub loop-counts-preserved : goal.loop-counts-preserved
loop-counts-preserved c = record {
  value = λ φ.
      c.in_ok-work_off_each.ensures.step.value φ
      ∙ popped_walked c.args.rows c.loop-counts.todo.items c.pop.new.self.items c.in-Some.counts
      c.in-Some.ensures.items φ c.loop-counts.sum
      ∙ c.loop-counts.invariant.value φ;
  waiting = c.in_ok-work_off_each.ensures.step.waiting
      (popped_rest c.args.rows c.loop-counts.todo.items c.pop.new.self.items c.in-Some.counts
      c.in-Some.ensures.items c.loop-counts.invariant.waiting);
  shapes = c.in_ok-work_off_each.ensures.step.shapes c.loop-counts.invariant.shapes;
}

pub loop-counts-smaller : goal.loop-counts-smaller
loop-counts-smaller c =
    let l = ap length c.in-Some.ensures.items in
    let a = length-append c.pop.new.self.items (c.in-Some.counts ∷ []) in
    let t = c.in_ok-work_off_each.ensures.step.tables in
    omega arith
