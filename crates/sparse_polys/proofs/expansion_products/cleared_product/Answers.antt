use Rattle.std.proofs.Common.{◌≡◌, ℕ, ◌*◌, [], ◌∷◌, ◌++◌, List, map, sym, ◌∙◌, ap, subst, arith}
use Rattle.std.proofs.Common.{refl, append_assoc, append-nil}
use Rattle.std.specs.Prelude.{nat_eq, Err}
use Rattle.std.specs.Cmp.Lexicographic.{pointwise}
use Rattle.sym_model.specs.Canonical.{is_label}
use Rattle.std.specs.Map.Iter.{deref_pair}
use Rattle.std.proofs.lemmas.List.{map-append}
use Rattle.sym_model.specs.Expansion.{Terms, Fraction}
use Rattle.fraction_laws.specs.Fractions.{scaled}
use Rattle.monomial_laws.specs.ExpressionTerms.{over}
use Rattle.linear_combinations.specs.Gains.{replaced, scaled as multiple}
use Rattle.sparse_polys.specs.Combination.{terms_of}
use Rattle.sparse_polys.specs.MonomialProducts.{product_terms, products}
use Rattle.linear_combinations.specs.Cleared.{GainsCleared, OverflowsCleared}
use Rattle.sparse_polys.proofs.Steps.{all_done, error_is}
use Rattle.sparse_polys.proofs.ValueLists.{combination_values}
use Rattle.sparse_polys.proofs.Accumulating.{magnitude-positive}
use Rattle.linear_combinations.proofs.Cleared.{denominator_among, Gains-none, Gains-next}
use Rattle.linear_combinations.proofs.Cleared.{Overflows-next}
use Rattle.linear_combinations.proofs.Cleared.{AreCleared-nothing}
use Rattle.sparse_polys.proofs.ListSteps.{products_pieces}
use Rattle.sparse_polys.proofs.ProductLists.{products_large}
use Rattle.sparse_polys.proofs.Rows.{greatest_size-among, greatest_size-values, list_whole}
use Rattle.sparse_polys.proofs.Rows.{list_among}
use Rattle.sparse_polys.proofs.expansion_products.cleared_product.Goals as goal

pub loop-label-init : goal.loop-label-init
loop-label-init g c = record {
  gains = λ d e left right. subst (λ l. GainsCleared (pointwise nat_eq) is_label (d * e) [] []
      (terms_of g.R.Scalar.value l)) (sym c.new-sum.ensures) (Gains-none (d * e) []
      (AreCleared-nothing (pointwise nat_eq) (d * e)));
  so_far = refl;
}

pub add_row-requires : goal.add_row-requires
add_row-requires g c =
    let whole =
    list_whole g.R.Scalar.value (map deref_pair c.loop-label.yielded) c.next.new.self
    c.loop-label.label-iterator _ _ c.in-Some.label.now c.in-Some.c.now
    (terms_of g.R.Scalar.value c.args.left.now)
    c.in-Some.ensures.steps c.loop-label.invariant.so_far
    c.into_iter-label-iterator.ensures.into_iter_gives
    (ap (terms_of g.R.Scalar.value) c.iter-label-items.ensures.rest) in
    let here = list_among g.R.Scalar.value (map deref_pair c.loop-label.yielded) c.next.new.self
    c.in-Some.label.now c.in-Some.c.now (terms_of g.R.Scalar.value c.args.left.now) whole in
    let t : List ℕ × Fraction = (c.in-Some.label.now, (g.R.Scalar.value c.in-Some.c.now)) in
    let s = greatest_size-among (terms_of g.R.Scalar.value c.args.left.now) t here in
    let same = greatest_size-values g.R.Scalar.value c.args.left.now in
    record { sizes = omega (arith, c.requires.sizes) }

pub loop-label-preserved : goal.loop-label-preserved
loop-label-preserved g c =
    let whole =
    list_whole g.R.Scalar.value (map deref_pair c.loop-label.yielded) c.next.new.self
    c.loop-label.label-iterator _ _ c.in-Some.label.now c.in-Some.c.now
    (terms_of g.R.Scalar.value c.args.left.now)
    c.in-Some.ensures.steps c.loop-label.invariant.so_far
    c.into_iter-label-iterator.ensures.into_iter_gives
    (ap (terms_of g.R.Scalar.value) c.iter-label-items.ensures.rest) in
    let here = list_among g.R.Scalar.value (map deref_pair c.loop-label.yielded) c.next.new.self
    c.in-Some.label.now c.in-Some.c.now (terms_of g.R.Scalar.value c.args.left.now) whole in
    let value = g.R.Scalar.value in
    let done = map deref_pair c.loop-label.yielded in
    let rest = c.next.new.self in
    let k = c.in-Some.label.now in
    let v = c.in-Some.c.now in
    let other = (terms_of value c.args.right.now) in
    let pushed : done ++ (k, v) ∷ [] ≡ map deref_pair (c.loop-label.yielded ++ (
      c.in-Some.label,
      c.in-Some.c,
    ) ∷ []) =
    sym (map-append deref_pair c.loop-label.yielded ((c.in-Some.label, c.in-Some.c) ∷ [])) in
    record {
      gains =
          λ d e left right.
          let h = over e other in
          let before = c.loop-label.invariant.gains d e left right in
          subst (λ es. GainsCleared (pointwise nat_eq) is_label (d * e) []
          (products (over d (terms_of value es)) h)
          (terms_of value c.add_row.new.sum)) pushed
          (Gains-next (λ es. products (over d (terms_of value es)) h) (products_pieces value d h)
          (d * e) done (k, v) [] (terms_of value c.loop-label.sum) before (done ++ (k, v) ∷ [])
          (terms_of value c.add_row.new.sum)
          refl
          (subst (λ l. GainsCleared (pointwise nat_eq) is_label (d * e)
          (terms_of value c.loop-label.sum) l
          (terms_of value c.add_row.new.sum))
          (sym (append-nil (multiple (scaled d (value v)) (replaced (product_terms k) h))))
          (c.in_ok-add_row.ensures.ok d e (denominator_among left (k, value v) here) right
          before.cleared)));
      so_far =
          ap (λ es. es ++ rest) (sym pushed) ∙ append_assoc done ((k, v) ∷ []) rest
          ∙ ap (λ es. done ++ es) (sym c.in-Some.ensures.steps) ∙ c.loop-label.invariant.so_far;
    }

pub returns-in_err-add_row-clause-large : goal.returns-in_err-add_row-clause-large
returns-in_err-add_row-clause-large g c err d e left right small =
    let whole =
    list_whole g.R.Scalar.value (map deref_pair c.loop-label.yielded) c.next.new.self
    c.loop-label.label-iterator _ _ c.in-Some.label.now c.in-Some.c.now
    (terms_of g.R.Scalar.value c.args.left.now)
    c.in-Some.ensures.steps c.loop-label.invariant.so_far
    c.into_iter-label-iterator.ensures.into_iter_gives
    (ap (terms_of g.R.Scalar.value) c.iter-label-items.ensures.rest) in
    let here = list_among g.R.Scalar.value (map deref_pair c.loop-label.yielded) c.next.new.self
    c.in-Some.label.now c.in-Some.c.now (terms_of g.R.Scalar.value c.args.left.now) whole in
    let value = g.R.Scalar.value in
    let done = map deref_pair c.loop-label.yielded in
    let rest = c.next.new.self in
    let k = c.in-Some.label.now in
    let v = c.in-Some.c.now in
    let other = (terms_of value c.args.right.now) in
    let f = over d (terms_of value c.args.left.now) in
    let h = over e other in
    let before = c.loop-label.invariant.gains d e left right in
    let vd = left.multiple (k, (value v)) here in
    products_large f h
    (subst (λ l. OverflowsCleared (pointwise nat_eq) (d * e) [] (products (over d l) h)) whole
    (Overflows-next (λ es. products (over d (terms_of value es)) h) (products_pieces value d h)
    (d * e) done (k, v) [] (terms_of value c.loop-label.sum) before rest
    (subst (λ l. OverflowsCleared (pointwise nat_eq) (d * e) (terms_of value c.loop-label.sum) l)
    (sym (append-nil (multiple (scaled d (value v)) (replaced (product_terms k) h))))
    (c.in_err-add_row.ensures.large (ap Err (error_is _ _ _ c.from_residual.ensures.1 err)) d e
    (denominator_among left (k, value v) here) right small
    (magnitude-positive d (terms_of value c.args.left.now) (k, (value v))
    (combination_values value (pointwise nat_eq) is_label c.args.left.now
    c.iter-label-items.ensures.combination) here left.positive vd)
    before.cleared))))

pub returns-clause-cleared : goal.returns-clause-cleared
returns-clause-cleared g c d e left right =
    let value = g.R.Scalar.value in
    let done = map deref_pair c.loop-label.yielded in
    let other = terms_of value c.args.right.now in
    let is : terms_of value done ≡ terms_of value c.args.left.now =
    ap (terms_of value)
    (all_done done c.loop-label.label-iterator _ _ c.in-None.ensures.steps.0
    c.loop-label.invariant.so_far c.into_iter-label-iterator.ensures.into_iter_gives
    ∙ c.iter-label-items.ensures.rest) in
    subst (λ (l : Terms (List ℕ)). GainsCleared (pointwise nat_eq) is_label (d * e) []
    (products (over d l) (over e other)) (terms_of value c.loop-label.sum)) is
    (c.loop-label.invariant.gains d e left right)
