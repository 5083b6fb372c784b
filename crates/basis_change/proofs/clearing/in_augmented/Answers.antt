use Rattle.std.proofs.Common.{◌≡◌, ◌++◌, ◌∷◌, [], ℕ, ℤ, List, map, sym, ap, subst, Err, rules}
use Rattle.std.specs.Map.Iter.{deref_pair}
use Rattle.std.proofs.lemmas.List.{map-append}
use Rattle.fraction_laws.specs.Fractions.{whole}
use Rattle.sym_model.specs.WholeTerms.{WholeTerms}
use Rattle.sym_model.specs.Sum.{Among}
use Rattle.linear_combinations.proofs.Gains.{all_pairs, gains_none, next_among, pairs_gain}
use Rattle.linear_combinations.proofs.Gains.{pairs_overflow, so_far_next}
use Rattle.linear_combinations.proofs.Steps.{all_done, error_is, IsCombination-empty}
use Rattle.basis_change.specs.AugmentedProducts.{equal}
use Rattle.basis_change.specs.Clearing.{augmented_terms}
use Rattle.basis_change.proofs.clearing.in_augmented.Goals as goal

augmented-append : (factor : ℕ) (xs ys : WholeTerms) → augmented_terms factor (xs ++ ys)
    ≡ augmented_terms factor xs ++ augmented_terms factor ys
augmented-append factor xs ys = search (rules, map-append)

pub loop-label-init : goal.loop-label-init
loop-label-init c = search (rules, gains_none, IsCombination-empty)

pub add_augmented-requires-clause-multiplicities : goal.add_augmented-requires-clause-multiplicities
add_augmented-requires-clause-multiplicities c =
    let done = map deref_pair c.loop-label.yielded in
    let rest = c.next.new.self in
    let x : List ℕ × ℤ = (c.in-Some.label.now, c.in-Some.c.now) in
    let whole =
    all_pairs done rest c.loop-label.label-iterator _ _ c.args.list.now x c.in-Some.ensures.steps
    c.loop-label.invariant.so_far c.into_iter-label-iterator.ensures.into_iter_gives
    c.iter-label-items.ensures.rest in
    c.requires.multiplicities x
    (subst (λ (es : WholeTerms). Among x es) whole (next_among done x rest))

pub loop-label-preserved : goal.loop-label-preserved
loop-label-preserved c =
    let inv = c.loop-label.invariant in
    let done = map deref_pair c.loop-label.yielded in
    let rest = c.next.new.self in
    let x : List ℕ × ℤ = (c.in-Some.label.now, c.in-Some.c.now) in
    let pushed : done ++ (c.in-Some.label.now, c.in-Some.c.now) ∷ [] ≡ map deref_pair
    (c.loop-label.yielded ++ (c.in-Some.label, c.in-Some.c) ∷ []) =
    sym (map-append deref_pair c.loop-label.yielded ((c.in-Some.label, c.in-Some.c) ∷ [])) in
    record {
      gains = pairs_gain (augmented_terms c.args.factor)
          (augmented-append c.args.factor) done x [] c.loop-label.sum inv.gains _
          c.add_augmented.new.sum pushed c.in_ok-add_augmented.ensures.gains;
      table = c.in_ok-add_augmented.ensures.table;
      so_far = so_far_next done rest c.loop-label.label-iterator _ _ x pushed
          c.in-Some.ensures.steps inv.so_far;
    }

pub returns-in_err-add_augmented-clause-large : goal.returns-in_err-add_augmented-clause-large
returns-in_err-add_augmented-clause-large c err =
    let inv = c.loop-label.invariant in
    let done = map deref_pair c.loop-label.yielded in
    let rest = c.next.new.self in
    let x : List ℕ × ℤ = (c.in-Some.label.now, c.in-Some.c.now) in
    let whole =
    all_pairs done rest c.loop-label.label-iterator _ _ c.args.list.now x c.in-Some.ensures.steps
    inv.so_far c.into_iter-label-iterator.ensures.into_iter_gives c.iter-label-items.ensures.rest in
    pairs_overflow (augmented_terms c.args.factor)
    (augmented-append c.args.factor) done x [] c.loop-label.sum inv.gains equal rest
    c.args.list.now whole
    (c.in_err-add_augmented.ensures.large (ap Err (error_is _ _ _ c.from_residual.ensures.1 err)))

pub returns-clause-gains : goal.returns-clause-gains
returns-clause-gains c = search (rules, all_done)
