use Rattle.std.proofs.Common.{◌≡◌, [], ◌∷◌, ◌++◌, append-nil, map, sym, ap, subst, rules}
use Rattle.std.specs.Prelude.{Err}
use Rattle.std.specs.Map.Iter.{deref_pair}
use Rattle.std.proofs.lemmas.List.{map-append}
use Rattle.sym_model.specs.Sum.{Among}
use Rattle.linear_combinations.specs.Gains.{Gains, scaled}
use Rattle.linear_combinations.proofs.Gains.{gains_none, pairs_gain, all_pairs, so_far_next}
use Rattle.linear_combinations.proofs.Gains.{next_among, replaced_append}
use Rattle.linear_combinations.proofs.Steps.{error_is, all_done, IsCombination-empty}
use Rattle.reduction_laws.specs.Reductions.{products, multiplied}
use Rattle.rim_hooks.proofs.ReducedProducts.{counted, heavy_step}
use Rattle.rim_hooks.proofs.steps.times_factor.Goals as goal

pub loop-label-init : goal.loop-label-init
loop-label-init g c = search (rules, gains_none, IsCombination-empty)

pub add_reduced_product-requires-clause-cells : goal.add_reduced_product-requires-clause-cells
add_reduced_product-requires-clause-cells g c =
    let done = map deref_pair c.loop-label.yielded in
    let all = all_pairs done c.next.new.self c.loop-label.label-iterator _ _ c.args.terms.now
    (c.in-Some.label.now, c.in-Some.c.now) c.in-Some.ensures.steps c.loop-label.invariant.so_far
    c.into_iter-label-iterator.ensures.into_iter_gives c.iter-label-items.ensures.rest in
    (c.requires.room (c.in-Some.label.now, c.in-Some.c.now)
    (subst (λ l. Among (c.in-Some.label.now, c.in-Some.c.now) l) all
    (next_among done (c.in-Some.label.now, c.in-Some.c.now) c.next.new.self))).1

pub add_reduced_product-requires-clause-few : goal.add_reduced_product-requires-clause-few
add_reduced_product-requires-clause-few g c =
    let done = map deref_pair c.loop-label.yielded in
    let all = all_pairs done c.next.new.self c.loop-label.label-iterator _ _ c.args.terms.now
    (c.in-Some.label.now, c.in-Some.c.now) c.in-Some.ensures.steps c.loop-label.invariant.so_far
    c.into_iter-label-iterator.ensures.into_iter_gives c.iter-label-items.ensures.rest in (
      (c.requires.room (c.in-Some.label.now, c.in-Some.c.now)
          (subst (λ l. Among (c.in-Some.label.now, c.in-Some.c.now) l) all
          (next_among done (c.in-Some.label.now, c.in-Some.c.now) c.next.new.self))).0,
      c.requires.few,
    )

pub add_reduced_product-requires-clause-nonzero : goal.add_reduced_product-requires-clause-nonzero
add_reduced_product-requires-clause-nonzero g c =
    let done = map deref_pair c.loop-label.yielded in
    let all = all_pairs done c.next.new.self c.loop-label.label-iterator _ _ c.args.terms.now
    (c.in-Some.label.now, c.in-Some.c.now) c.in-Some.ensures.steps c.loop-label.invariant.so_far
    c.into_iter-label-iterator.ensures.into_iter_gives c.iter-label-items.ensures.rest in
    counted g.L.PartialEq.eq g.L.Label.is_label c.args.terms.now
    c.iter-label-items.ensures.combination (c.in-Some.label.now, c.in-Some.c.now)
    (subst (λ l. Among (c.in-Some.label.now, c.in-Some.c.now) l) all
    (next_among done (c.in-Some.label.now, c.in-Some.c.now) c.next.new.self))

pub loop-label-preserved : goal.loop-label-preserved
loop-label-preserved g c =
    let done = map deref_pair c.loop-label.yielded in
    let pushed : done ++ (c.in-Some.label.now, c.in-Some.c.now) ∷ [] ≡ map deref_pair
    (c.loop-label.yielded ++ (c.in-Some.label, c.in-Some.c) ∷ []) =
    sym (map-append deref_pair c.loop-label.yielded ((c.in-Some.label, c.in-Some.c) ∷ [])) in
    let image = products (g.R.Reduction.variables c.args.rule.now) g.R.Reduction.shape
    (g.R.Reduction.reduced c.args.rule.now) c.args.factor.now in
    record {
      gains = pairs_gain (multiplied (g.R.Reduction.variables c.args.rule.now) g.R.Reduction.shape
          (g.R.Reduction.reduced c.args.rule.now) c.args.factor.now) (replaced_append image)
          done (c.in-Some.label.now, c.in-Some.c.now) [] c.loop-label.sums
          c.loop-label.invariant.gains _ c.add_reduced_product.new.sums pushed
          (subst (λ l. Gains c.loop-label.sums l c.add_reduced_product.new.sums)
          (sym (append-nil (scaled c.in-Some.c.now (image c.in-Some.label.now))))
          c.in_ok-add_reduced_product.ensures.gains);
      table = c.in_ok-add_reduced_product.ensures.table;
      so_far = so_far_next done c.next.new.self c.loop-label.label-iterator _ _
          (c.in-Some.label.now, c.in-Some.c.now) pushed c.in-Some.ensures.steps
          c.loop-label.invariant.so_far;
    }

pub returns-in_err-add_reduced_product-clause-large
    : goal.returns-in_err-add_reduced_product-clause-large
returns-in_err-add_reduced_product-clause-large g c err =
    let done = map deref_pair c.loop-label.yielded in
    let all = all_pairs done c.next.new.self c.loop-label.label-iterator _ _ c.args.terms.now
    (c.in-Some.label.now, c.in-Some.c.now) c.in-Some.ensures.steps c.loop-label.invariant.so_far
    c.into_iter-label-iterator.ensures.into_iter_gives c.iter-label-items.ensures.rest in
    heavy_step (g.R.Reduction.variables c.args.rule.now) g.R.Reduction.shape
    (g.R.Reduction.reduced c.args.rule.now) (g.met.R.Reduction.light c.args.rule.now)
    g.L.PartialEq.eq c.args.factor.now done
    (c.in-Some.label.now, c.in-Some.c.now) c.next.new.self c.args.terms.now c.loop-label.sums all
    c.loop-label.invariant.gains
    (c.in_err-add_reduced_product.ensures.large
    (ap Err (error_is _ _ _ c.from_residual.ensures.1 err)))

pub returns-clause-gains : goal.returns-clause-gains
returns-clause-gains g c = search (rules, all_done)
