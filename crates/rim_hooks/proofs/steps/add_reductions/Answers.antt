use Rattle.std.proofs.Common.{Iter, ◌≡◌, ℕ, List, [], ◌∷◌, ◌++◌, map, sym, ap, subst, ℤ, rules}
use Rattle.std.specs.Prelude.{Err}
use Rattle.std.proofs.lemmas.List.{map-append}
use Rattle.sym_model.specs.Sum.{Among}
use Rattle.sym_model.proofs.Lists.{all_read}
use Rattle.linear_combinations.specs.Gains.{Gains, Overflows, replaced, scaled}
use Rattle.linear_combinations.proofs.Gains.{gains_none, pairs_gain, pairs_overflow, all_pairs}
use Rattle.linear_combinations.proofs.Gains.{so_far_next, next_among}
use Rattle.linear_combinations.proofs.Steps.{error_is}
use Rattle.sparse_polys.proofs.ClearedSums.{scaled_twice}
use Rattle.rim_hooks.proofs.ReducedProducts.{label_small, reductions_append}
use Rattle.rim_hooks.proofs.steps.add_reductions.Goals as goal

pub loop-shape-init : goal.loop-shape-init
loop-shape-init g c = search (rules, gains_none)

pub add_reduced-requires-clause-rows : goal.add_reduced-requires-clause-rows
add_reduced-requires-clause-rows g c = search (rules, all_pairs, next_among)

pub add_reduced-requires-clause-size : goal.add_reduced-requires-clause-size
add_reduced-requires-clause-size g c =
    let done = map (λ item. item.now) c.loop-shape.yielded in
    let p : List ℕ × ℤ = c.in-Some.field-0.now in
    let rest = c.next.new.self.rest.now in
    let all = all_pairs done rest c.loop-shape.shape-iterator.rest.now _ _ c.args.terms.now p
    c.in-Some.ensures.steps c.loop-shape.invariant.so_far
    (ap (λ (it : Iter (List ℕ × ℤ)). it.rest.now)
    c.into_iter-shape-iterator.ensures.into_iter_gives) c.iter-shape-items.ensures.rest in
    label_small c.args.terms.now c.iter-shape-items.ensures.canonical p (subst (λ l. Among p l) all
    (next_among done p rest))

pub loop-shape-preserved : goal.loop-shape-preserved
loop-shape-preserved g c =
    let done = map (λ item. item.now) c.loop-shape.yielded in
    let p : List ℕ × ℤ = c.in-Some.field-0.now in
    let rest = c.next.new.self.rest.now in
    let pushed : done ++ p ∷ [] ≡ map (λ item. item.now) (c.loop-shape.yielded ++ c.in-Some.field-0
    ∷ []) =
    sym (map-append (λ item. item.now) c.loop-shape.yielded (c.in-Some.field-0 ∷ [])) in
    let image = g.R.Reduction.reduced c.args.rule.now c.args.label.now in
    record {
      gains = pairs_gain (λ xs. scaled c.args.c (replaced image xs))
          (reductions_append c.args.c image) done p c.args.sums.now c.loop-shape.sums
          c.loop-shape.invariant.gains _ c.add_reduced.new.sums pushed
          (subst (λ l. Gains c.loop-shape.sums l c.add_reduced.new.sums) (scaled_twice c.args.c p.1
          (image p.0)) c.in_ok-add_reduced.ensures.gains);
      table = c.in_ok-add_reduced.ensures.table;
      so_far = so_far_next done rest c.loop-shape.shape-iterator.rest.now _ _ p pushed
          c.in-Some.ensures.steps c.loop-shape.invariant.so_far;
    }

pub returns-in_err-add_reduced-clause-large : goal.returns-in_err-add_reduced-clause-large
returns-in_err-add_reduced-clause-large g c err =
    let done = map (λ item. item.now) c.loop-shape.yielded in
    let p : List ℕ × ℤ = c.in-Some.field-0.now in
    let rest = c.next.new.self.rest.now in
    let all = all_pairs done rest c.loop-shape.shape-iterator.rest.now _ _ c.args.terms.now p
    c.in-Some.ensures.steps c.loop-shape.invariant.so_far
    (ap (λ (it : Iter (List ℕ × ℤ)). it.rest.now)
    c.into_iter-shape-iterator.ensures.into_iter_gives) c.iter-shape-items.ensures.rest in
    let image = g.R.Reduction.reduced c.args.rule.now c.args.label.now in
    pairs_overflow (λ xs. scaled c.args.c (replaced image xs)) (reductions_append c.args.c image)
    done p c.args.sums.now c.loop-shape.sums c.loop-shape.invariant.gains g.L.PartialEq.eq rest
    c.args.terms.now all
    (subst (λ l. Overflows g.L.PartialEq.eq c.loop-shape.sums l) (scaled_twice c.args.c p.1
    (image p.0)) (c.in_err-add_reduced.ensures.large
    (ap Err (error_is _ _ _ c.from_residual.ensures.1 err))))

pub returns-clause-gains : goal.returns-clause-gains
returns-clause-gains g c = search (rules, all_read)
