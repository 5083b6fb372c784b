use Rattle.std.proofs.Common.{◌≡◌, ℕ, ◌*◌, [], ◌∷◌, ◌++◌, List, map, sym, ◌∙◌, ap, subst, arith}
use Rattle.std.proofs.Common.{refl, append_assoc}
use Rattle.std.specs.Prelude.{nat_eq, Err}
use Rattle.std.specs.Cmp.Lexicographic.{pointwise}
use Rattle.sym_model.specs.Canonical.{is_label}
use Rattle.std.specs.Map.Iter.{deref_pair}
use Rattle.std.proofs.lemmas.List.{map-append}
use Rattle.sym_model.specs.Expansion.{Terms, Fraction}
use Rattle.fraction_laws.specs.Fractions.{scaled}
use Rattle.monomial_laws.specs.ExpressionTerms.{over}
use Rattle.linear_combinations.specs.Gains.{replaced, scaled as multiple}
use Rattle.sparse_polys.specs.Combination.{terms_of}
use Rattle.sparse_polys.specs.MonomialProducts.{product_terms}
use Rattle.linear_combinations.specs.Cleared.{GainsCleared, OverflowsCleared}
use Rattle.sparse_polys.proofs.Steps.{all_done, error_is}
use Rattle.sparse_polys.proofs.ValueLists.{combination_values}
use Rattle.sparse_polys.proofs.Accumulating.{magnitude-positive}
use Rattle.linear_combinations.proofs.Cleared.{denominator_among, Gains-none, Gains-next}
use Rattle.linear_combinations.proofs.Cleared.{Overflows-next}
use Rattle.sparse_polys.proofs.ClearedSums.{scaled_twice}
use Rattle.sparse_polys.proofs.ListSteps.{terms_pieces}
use Rattle.sparse_polys.proofs.Rows.{greatest_size-among, greatest_size-values, list_whole}
use Rattle.sparse_polys.proofs.Rows.{list_among}
use Rattle.sparse_polys.proofs.expansion_products.add_row.Goals as goal

pub loop-other-init : goal.loop-other-init
loop-other-init g c = record {
  gains = λ d e den common cleared. Gains-none
      (d * e) (terms_of g.R.Scalar.value c.args.sum.now) cleared;
  so_far = refl;
}

pub add_pair-requires : goal.add_pair-requires
add_pair-requires g c =
    let whole =
    list_whole g.R.Scalar.value (map deref_pair c.loop-other.yielded) c.next.new.self
    c.loop-other.other-iterator _ _ c.in-Some.other.now c.in-Some.c.now
    (terms_of g.R.Scalar.value c.args.right.now)
    c.in-Some.ensures.steps c.loop-other.invariant.so_far
    c.into_iter-other-iterator.ensures.into_iter_gives
    (ap (terms_of g.R.Scalar.value) c.iter-other-items.ensures.rest) in
    let here = list_among g.R.Scalar.value (map deref_pair c.loop-other.yielded) c.next.new.self
    c.in-Some.other.now c.in-Some.c.now (terms_of g.R.Scalar.value c.args.right.now) whole in
    let t : List ℕ × Fraction = (c.in-Some.other.now, (g.R.Scalar.value c.in-Some.c.now)) in
    let s = greatest_size-among (terms_of g.R.Scalar.value c.args.right.now) t here in
    let same = greatest_size-values g.R.Scalar.value c.args.right.now in
    record { sizes = omega (arith, c.requires.sizes) }

pub loop-other-preserved : goal.loop-other-preserved
loop-other-preserved g c =
    let whole =
    list_whole g.R.Scalar.value (map deref_pair c.loop-other.yielded) c.next.new.self
    c.loop-other.other-iterator _ _ c.in-Some.other.now c.in-Some.c.now
    (terms_of g.R.Scalar.value c.args.right.now)
    c.in-Some.ensures.steps c.loop-other.invariant.so_far
    c.into_iter-other-iterator.ensures.into_iter_gives
    (ap (terms_of g.R.Scalar.value) c.iter-other-items.ensures.rest) in
    let here = list_among g.R.Scalar.value (map deref_pair c.loop-other.yielded) c.next.new.self
    c.in-Some.other.now c.in-Some.c.now (terms_of g.R.Scalar.value c.args.right.now) whole in
    let value = g.R.Scalar.value in
    let done = map deref_pair c.loop-other.yielded in
    let rest = c.next.new.self in
    let k = c.in-Some.other.now in
    let v = c.in-Some.c.now in
    let label = c.args.label.now in
    let pushed : done ++ (k, v) ∷ [] ≡ map deref_pair (c.loop-other.yielded ++ (
      c.in-Some.other,
      c.in-Some.c,
    ) ∷ []) =
    sym (map-append deref_pair c.loop-other.yielded ((c.in-Some.other, c.in-Some.c) ∷ [])) in
    record {
      gains =
          λ d e den common cleared.
          let z = scaled d (value c.args.left) in
          let before = c.loop-other.invariant.gains d e den common cleared in
          subst (λ es. GainsCleared (pointwise nat_eq) is_label (d * e)
          (terms_of value c.args.sum.now)
          (multiple z (replaced (product_terms label) (over e (terms_of value es))))
          (terms_of value c.add_pair.new.sum)) pushed
          (Gains-next (λ es. multiple z (replaced (product_terms label)
          (over e (terms_of value es)))) (terms_pieces value z label e) (d * e) done
          (k, v) (terms_of value c.args.sum.now) (terms_of value c.loop-other.sum) before
          (done ++ (k, v) ∷ []) (terms_of value c.add_pair.new.sum) refl
          (subst (λ l. GainsCleared (pointwise nat_eq) is_label (d * e)
          (terms_of value c.loop-other.sum) l
          (terms_of value c.add_pair.new.sum))
          (scaled_twice z (scaled e (value v)) (product_terms label k))
          (c.in_ok-add_pair.ensures.ok d e
          (den, denominator_among common (k, value v) here)
          before.cleared)));
      so_far =
          ap (λ es. es ++ rest) (sym pushed) ∙ append_assoc done ((k, v) ∷ []) rest
          ∙ ap (λ es. done ++ es) (sym c.in-Some.ensures.steps) ∙ c.loop-other.invariant.so_far;
    }

pub returns-in_err-add_pair-clause-large : goal.returns-in_err-add_pair-clause-large
returns-in_err-add_pair-clause-large g c err d e den common small a cleared =
    let whole =
    list_whole g.R.Scalar.value (map deref_pair c.loop-other.yielded) c.next.new.self
    c.loop-other.other-iterator _ _ c.in-Some.other.now c.in-Some.c.now
    (terms_of g.R.Scalar.value c.args.right.now)
    c.in-Some.ensures.steps c.loop-other.invariant.so_far
    c.into_iter-other-iterator.ensures.into_iter_gives
    (ap (terms_of g.R.Scalar.value) c.iter-other-items.ensures.rest) in
    let here = list_among g.R.Scalar.value (map deref_pair c.loop-other.yielded) c.next.new.self
    c.in-Some.other.now c.in-Some.c.now (terms_of g.R.Scalar.value c.args.right.now) whole in
    let value = g.R.Scalar.value in
    let done = map deref_pair c.loop-other.yielded in
    let rest = c.next.new.self in
    let k = c.in-Some.other.now in
    let v = c.in-Some.c.now in
    let label = c.args.label.now in
    let z = scaled d (value c.args.left) in
    let before = c.loop-other.invariant.gains d e den common cleared in
    let vd = common.multiple (k, (value v)) here in
    subst (λ l. OverflowsCleared (pointwise nat_eq) (d * e) (terms_of value c.args.sum.now)
    (multiple z (replaced (product_terms label) (over e l)))) whole
    (Overflows-next (λ es. multiple z (replaced (product_terms label) (over e (terms_of value es))))
    (terms_pieces value z label e) (d * e) done (k, v) (terms_of value c.args.sum.now)
    (terms_of value c.loop-other.sum) before
    rest
    (subst (λ l. OverflowsCleared (pointwise nat_eq) (d * e) (terms_of value c.loop-other.sum) l)
    (scaled_twice z (scaled e (value v))
    (product_terms label k))
    (c.in_err-add_pair.ensures.large (ap Err (error_is _ _ _ c.from_residual.ensures.1 err)) d e
    (den, denominator_among common (k, value v) here)
    small a
    (magnitude-positive e (terms_of value c.args.right.now) (k, (value v))
    (combination_values value (pointwise nat_eq) is_label c.args.right.now
    c.iter-other-items.ensures.combination) here common.positive vd)
    before.cleared)))

pub returns-clause-ok : goal.returns-clause-ok
returns-clause-ok g c d e den common cleared =
    let value = g.R.Scalar.value in
    let done = map deref_pair c.loop-other.yielded in
    let is : terms_of value done ≡ (terms_of value c.args.right.now) =
    ap (terms_of value)
    (all_done done c.loop-other.other-iterator _ _ c.in-None.ensures.steps.0
    c.loop-other.invariant.so_far c.into_iter-other-iterator.ensures.into_iter_gives)
    ∙ (ap (terms_of value) c.iter-other-items.ensures.rest) in
    subst (λ (l : Terms (List ℕ)). GainsCleared (pointwise nat_eq) is_label (d * e)
    (terms_of value c.args.sum.now)
    (multiple (scaled d (value c.args.left)) (replaced (product_terms c.args.label.now)
    (over e l))) (terms_of value c.loop-other.sum)) is
    (c.loop-other.invariant.gains d e den common cleared)
