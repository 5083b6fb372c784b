use Rattle.std.proofs.Common.{◌≡◌, ℕ, ℤ, List, [], ◌∷◌, ◌++◌, map, refl, sym, ap, subst, rules}
use Rattle.std.specs.Prelude.{Err}
use Rattle.std.specs.Map.Iter.{deref_pair}
use Rattle.std.proofs.lemmas.List.{map-append}
use Rattle.sym_model.specs.Sum.{Among}
use Rattle.sym_model.specs.WholeTerms.{WholeTerms}
use Rattle.linear_combinations.specs.Gains.{scaled}
use Rattle.linear_combinations.proofs.Gains.{all_pairs, gains_none, next_among, pairs_gain}
use Rattle.linear_combinations.proofs.Gains.{pairs_overflow, so_far_next, scaled_append}
use Rattle.linear_combinations.proofs.Steps.{all_done, error_is}
use Rattle.basis_change.specs.AugmentedProducts.{Mixed, equal, products}
use Rattle.basis_change.proofs.products.add_mixed.Goals as goal

abbrev added : ℤ → List ℕ → List ℕ → WholeTerms → Mixed
added c converted augmented factor = scaled c (products factor converted augmented)

added-append : (c : ℤ) (converted augmented : List ℕ) (xs ys : WholeTerms) →
    added c converted augmented (xs ++ ys) ≡ added c converted augmented xs ++ added c converted
    augmented ys
added-append c converted augmented xs ys = search (rules, map-append, scaled_append)

pub loop-label-init : goal.loop-label-init
loop-label-init c = record { gains = gains_none c.args.sum.now; so_far = refl }

pub add_mixed_term-requires-clause-sizes : goal.add_mixed_term-requires-clause-sizes
add_mixed_term-requires-clause-sizes c =
    let done = map deref_pair c.loop-label.yielded in
    let rest = c.next.new.self in
    let all = all_pairs done rest c.loop-label.label-iterator _ _ c.args.factor.now
    (c.in-Some.label.now, c.in-Some.have.now) c.in-Some.ensures.steps
    c.loop-label.invariant.so_far c.into_iter-label-iterator.ensures.into_iter_gives
    c.iter-label-items.ensures.rest in
    c.requires.sizes (c.in-Some.label.now, c.in-Some.have.now)
    (subst (Among (c.in-Some.label.now, c.in-Some.have.now)) all
    (next_among done (c.in-Some.label.now, c.in-Some.have.now) rest))

pub loop-label-preserved : goal.loop-label-preserved
loop-label-preserved c =
    let inv = c.loop-label.invariant in
    let z = c.args.c in
    let conv = c.args.converted.now in
    let aug = c.args.augmented.now in
    let done = map deref_pair c.loop-label.yielded in
    let rest = c.next.new.self in
    let pushed : done ++ (c.in-Some.label.now, c.in-Some.have.now) ∷ [] ≡ map deref_pair
    (c.loop-label.yielded ++ (c.in-Some.label, c.in-Some.have) ∷ []) =
    sym (map-append deref_pair c.loop-label.yielded ((c.in-Some.label, c.in-Some.have) ∷ [])) in
    record {
      gains = pairs_gain (added z conv aug) (added-append z conv aug) done (
        c.in-Some.label.now,
        c.in-Some.have.now,
      ) c.args.sum.now c.loop-label.sum inv.gains _ c.add_mixed_term.new.sum
          pushed c.in_ok-add_mixed_term.ensures.gains;
      so_far = so_far_next done rest c.loop-label.label-iterator _ _ (
        c.in-Some.label.now,
        c.in-Some.have.now,
      ) pushed c.in-Some.ensures.steps inv.so_far;
    }

pub returns-in_err-add_mixed_term-clause-large : goal.returns-in_err-add_mixed_term-clause-large
returns-in_err-add_mixed_term-clause-large c err =
    let inv = c.loop-label.invariant in
    let z = c.args.c in
    let conv = c.args.converted.now in
    let aug = c.args.augmented.now in
    let done = map deref_pair c.loop-label.yielded in
    let rest = c.next.new.self in
    let all = all_pairs done rest c.loop-label.label-iterator _ _ c.args.factor.now
    (c.in-Some.label.now, c.in-Some.have.now) c.in-Some.ensures.steps inv.so_far
    c.into_iter-label-iterator.ensures.into_iter_gives c.iter-label-items.ensures.rest in
    pairs_overflow (added z conv aug) (added-append z conv aug) done (
      c.in-Some.label.now,
      c.in-Some.have.now,
    ) c.args.sum.now c.loop-label.sum inv.gains equal rest c.args.factor.now
    all
    (c.in_err-add_mixed_term.ensures.large (ap Err (error_is _ _ _ c.from_residual.ensures.1 err)))

pub returns-clause-gains : goal.returns-clause-gains
returns-clause-gains c = search (rules, all_done)
