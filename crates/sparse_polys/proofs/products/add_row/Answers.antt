use Rattle.std.proofs.Common.{◌≡◌, ◌*◌, [], ◌∷◌, ◌++◌, map, sym, ap, subst, refl, rules}
use Rattle.std.specs.Prelude.{Err}
use Rattle.std.specs.Map.Iter.{deref_pair}
use Rattle.std.proofs.lemmas.List.{map-append}
use Rattle.std.specs.Prelude.{nat_eq}
use Rattle.std.specs.Cmp.Lexicographic.{pointwise}
use Rattle.sym_model.specs.LabelLimits.{is_monomial_label}
use Rattle.sym_model.specs.Polynomial.{Term, times}
use Rattle.monomial_laws.specs.ExpressionTerms.{over}
use Rattle.fraction_laws.specs.Fractions.{scaled}
use Rattle.sparse_polys.specs.Combination.{terms_of}
use Rattle.sparse_polys.proofs.Steps.{all_done, error_is}
use Rattle.linear_combinations.specs.Cleared.{GainsCleared, OverflowsCleared}
use Rattle.linear_combinations.proofs.Cleared.{denominator_among, Gains-none, Gains-next}
use Rattle.linear_combinations.proofs.Cleared.{Overflows-next}
use Rattle.sparse_polys.proofs.ListSteps.{row_pieces, list_whole, list_among, so_far_next}
use Rattle.sparse_polys.proofs.products.add_row.Goals as goal

pub loop-monomial-init : goal.loop-monomial-init
loop-monomial-init g c = search (rules, Gains-none)

pub add_product-requires : goal.add_product-requires
add_product-requires g c =
    let whole =
    list_whole g.R.Scalar.value (map deref_pair c.loop-monomial.yielded) c.next.new.self
    c.loop-monomial.monomial-iterator _ _ c.in-Some.monomial.now c.in-Some.b.now
    (terms_of g.R.Scalar.value c.args.right.now)
    c.in-Some.ensures.steps c.loop-monomial.invariant.so_far
    c.into_iter-monomial-iterator.ensures.into_iter_gives
    (ap (terms_of g.R.Scalar.value) c.iter-monomial-items.ensures.rest) in
    c.requires _ (list_among g.R.Scalar.value (map deref_pair c.loop-monomial.yielded)
    c.next.new.self c.in-Some.monomial.now c.in-Some.b.now
    (terms_of g.R.Scalar.value c.args.right.now) whole)

pub loop-monomial-preserved : goal.loop-monomial-preserved
loop-monomial-preserved g c =
    let value = g.R.Scalar.value in
    let done = map deref_pair c.loop-monomial.yielded in
    let rest = c.next.new.self in
    let k = c.in-Some.monomial.now in
    let v = c.in-Some.b.now in
    let left = c.args.left.now in
    let whole =
    list_whole value done rest c.loop-monomial.monomial-iterator _ _ k v
    (terms_of value c.args.right.now)
    c.in-Some.ensures.steps c.loop-monomial.invariant.so_far
    c.into_iter-monomial-iterator.ensures.into_iter_gives
    (ap (terms_of value) c.iter-monomial-items.ensures.rest) in
    let here = list_among value done rest k v (terms_of value c.args.right.now) whole in
    let pushed : done ++ (k, v) ∷ [] ≡ map deref_pair
    (c.loop-monomial.yielded ++ (c.in-Some.monomial, c.in-Some.b) ∷ []) =
    sym (map-append deref_pair c.loop-monomial.yielded ((c.in-Some.monomial, c.in-Some.b) ∷ [])) in
    record {
      gains =
          λ d e den common cleared.
          let s : Term = (left, scaled d (value c.args.a)) in
          let before = c.loop-monomial.invariant.gains d e den common cleared in
          subst (λ es. GainsCleared (pointwise nat_eq) is_monomial_label (d * e)
          (terms_of value c.args.sum.now)
          (times (s ∷ []) (over e (terms_of value es))) (terms_of value c.add_product.new.sum))
          pushed
          (Gains-next (λ es. times (s ∷ []) (over e (terms_of value es))) (row_pieces value s e)
          (d * e) done (k, v) (terms_of value c.args.sum.now) (terms_of value c.loop-monomial.sum)
          before
          (done ++ (k, v) ∷ []) (terms_of value c.add_product.new.sum) refl
          (c.in_ok-add_product.ensures.ok d e
          (den, denominator_among common (k, value v) here)
          before.cleared));
      so_far = so_far_next done rest c.loop-monomial.monomial-iterator _ _ (k, v) pushed
          c.in-Some.ensures.steps c.loop-monomial.invariant.so_far;
    }

pub returns-in_err-add_product-clause-large : goal.returns-in_err-add_product-clause-large
returns-in_err-add_product-clause-large g c err d e den common small cleared =
    let value = g.R.Scalar.value in
    let done = map deref_pair c.loop-monomial.yielded in
    let rest = c.next.new.self in
    let k = c.in-Some.monomial.now in
    let v = c.in-Some.b.now in
    let whole =
    list_whole value done rest c.loop-monomial.monomial-iterator _ _ k v
    (terms_of value c.args.right.now)
    c.in-Some.ensures.steps c.loop-monomial.invariant.so_far
    c.into_iter-monomial-iterator.ensures.into_iter_gives
    (ap (terms_of value) c.iter-monomial-items.ensures.rest) in
    let here = list_among value done rest k v (terms_of value c.args.right.now) whole in
    let s : Term = (c.args.left.now, scaled d (value c.args.a)) in
    let before = c.loop-monomial.invariant.gains d e den common cleared in
    subst (λ l. OverflowsCleared (pointwise nat_eq) (d * e) (terms_of value c.args.sum.now)
    (times (s ∷ []) (over e l))) whole
    (Overflows-next (λ es. times (s ∷ []) (over e (terms_of value es))) (row_pieces value s e)
    (d * e) done (k, v) (terms_of value c.args.sum.now) (terms_of value c.loop-monomial.sum) before
    rest
    (c.in_err-add_product.ensures.large (ap Err (error_is _ _ _ c.from_residual.ensures.1 err)) d e
    (den, denominator_among common (k, value v) here) small before.cleared))

pub returns-clause-ok : goal.returns-clause-ok
returns-clause-ok g c d e den common cleared = search (rules, all_done)
