use Rattle.std.proofs.Common.{◌≡◌, ℕ, ◌*◌, [], ◌∷◌, ◌++◌, List, map, sym, ◌∙◌, ap, subst, refl}
use Rattle.std.specs.Prelude.{nat_eq, Err}
use Rattle.std.specs.Cmp.Lexicographic.{pointwise}
use Rattle.std.specs.Map.Iter.{deref_pair}
use Rattle.std.proofs.lemmas.List.{map-append}
use Rattle.sym_model.specs.Expansion.{Terms, denominators}
use Rattle.sym_model.specs.LabelLimits.{is_monomial_label}
use Rattle.sym_model.specs.ListWeight.{common_denominator}
use Rattle.sym_model.specs.Polynomial.{pair, times}
use Rattle.monomial_laws.specs.ExpressionTerms.{over}
use Rattle.sparse_polys.specs.Combination.{terms_of}
use Rattle.sparse_polys.proofs.Steps.{all_done, error_is}
use Rattle.sparse_polys.proofs.Tables.{table_gained}
use Rattle.sparse_polys.proofs.ValueLists.{combination_values, length_values}
use Rattle.linear_combinations.specs.Cleared.{GainsCleared, OverflowsCleared}
use Rattle.sparse_polys.specs.Products.{value_in}
use Rattle.linear_combinations.proofs.Cleared.{denominator_among, Gains-none, Gains-next}
use Rattle.linear_combinations.proofs.Cleared.{Overflows-next}
use Rattle.linear_combinations.proofs.Cleared.{AreCleared-nothing}
use Rattle.sparse_polys.proofs.ListSteps.{product_pieces, list_whole, list_among, so_far_next}
use Rattle.sparse_polys.proofs.PolynomialValues.{represents, represents_nothing, product_value}
use Rattle.sparse_polys.proofs.PolynomialValues.{product_overflows, common-denominators}
use Rattle.sparse_polys.proofs.PolynomialValues.{least-denominators, weights-large}
use Rattle.sym_model.proofs.PolynomialLaws.{restricted_test}
use Rattle.sparse_polys.proofs.products.times.Goals as goal
use lib.IntN.{+ℤ_idl}

pub returns-then-len-eq0-clause-value : goal.returns-then-len-eq0-clause-value
returns-then-len-eq0-clause-value g c n =
    represents_nothing n (denominators (terms_of g.R.Scalar.value c.args.left.now) * denominators
    (terms_of g.R.Scalar.value c.args.right.now))
    (terms_of g.R.Scalar.value c.args.left.now) (terms_of g.R.Scalar.value c.args.right.now) _
    (ap (terms_of g.R.Scalar.value) c.new.ensures)
    (length_values g.R.Scalar.value c.args.right.now ∙ sym c.len.ensures.len ∙ c.if-len-eq0.true)

pub loop-monomial-init : goal.loop-monomial-init
loop-monomial-init g c = record {
  gains =
      λ d e left right.
      subst (λ l. GainsCleared (pointwise nat_eq) is_monomial_label (d * e) [] []
      (terms_of g.R.Scalar.value l))
      (sym c.new-sum.ensures) (Gains-none (d * e) []
      (AreCleared-nothing (pointwise nat_eq) (d * e)));
  so_far = refl;
}

pub add_row-requires : goal.add_row-requires
add_row-requires g c t m =
    let whole =
    list_whole g.R.Scalar.value (map deref_pair c.loop-monomial.yielded) c.next.new.self
    c.loop-monomial.monomial-iterator _ _ c.in-Some.monomial.now c.in-Some.a.now
    (terms_of g.R.Scalar.value c.args.left.now)
    c.in-Some.ensures.steps c.loop-monomial.invariant.so_far
    c.into_iter-monomial-iterator.ensures.into_iter_gives
    (ap (terms_of g.R.Scalar.value) c.iter-monomial-items.ensures.rest) in
    c.requires _ t (list_among g.R.Scalar.value (map deref_pair c.loop-monomial.yielded)
    c.next.new.self c.in-Some.monomial.now c.in-Some.a.now
    (terms_of g.R.Scalar.value c.args.left.now) whole) m

pub loop-monomial-preserved : goal.loop-monomial-preserved
loop-monomial-preserved g c =
    let value = g.R.Scalar.value in
    let done = map deref_pair c.loop-monomial.yielded in
    let rest = c.next.new.self in
    let k = c.in-Some.monomial.now in
    let v = c.in-Some.a.now in
    let other = (terms_of value c.args.right.now) in
    let whole =
    list_whole value done rest c.loop-monomial.monomial-iterator _ _ k v
    (terms_of value c.args.left.now)
    c.in-Some.ensures.steps c.loop-monomial.invariant.so_far
    c.into_iter-monomial-iterator.ensures.into_iter_gives
    (ap (terms_of value) c.iter-monomial-items.ensures.rest) in
    let here = list_among value done rest k v (terms_of value c.args.left.now) whole in
    let pushed : done ++ (k, v) ∷ [] ≡ map deref_pair
    (c.loop-monomial.yielded ++ (c.in-Some.monomial, c.in-Some.a) ∷ []) =
    sym (map-append deref_pair c.loop-monomial.yielded ((c.in-Some.monomial, c.in-Some.a) ∷ [])) in
    record {
      gains =
          λ d e left right.
          let before = c.loop-monomial.invariant.gains d e left right in
          subst (λ es. GainsCleared (pointwise nat_eq) is_monomial_label (d * e) []
          (times (over d (terms_of value es))
          (over e other)) (terms_of value c.add_row.new.sum)) pushed
          (Gains-next (λ es. times (over d (terms_of value es)) (over e other))
          (product_pieces value d (over e other)) (d * e) done (k, v) []
          (terms_of value c.loop-monomial.sum)
          before
          (done ++ (k, v) ∷ []) (terms_of value c.add_row.new.sum) refl
          (c.in_ok-add_row.ensures.ok d e (denominator_among left (k, value v) here) right
          before.cleared));
      so_far = so_far_next done rest c.loop-monomial.monomial-iterator _ _ (k, v) pushed
          c.in-Some.ensures.steps c.loop-monomial.invariant.so_far;
    }

pub returns-in_err-add_row-clause-large : goal.returns-in_err-add_row-clause-large
returns-in_err-add_row-clause-large g c err =
    let value = g.R.Scalar.value in
    let done = map deref_pair c.loop-monomial.yielded in
    let rest = c.next.new.self in
    let k = c.in-Some.monomial.now in
    let v = c.in-Some.a.now in
    let whole =
    list_whole value done rest c.loop-monomial.monomial-iterator _ _ k v
    (terms_of value c.args.left.now)
    c.in-Some.ensures.steps c.loop-monomial.invariant.so_far
    c.into_iter-monomial-iterator.ensures.into_iter_gives
    (ap (terms_of value) c.iter-monomial-items.ensures.rest) in
    let here = list_among value done rest k v (terms_of value c.args.left.now) whole in
    let d = common_denominator (terms_of value c.args.left.now) in
    let e = common_denominator (terms_of value c.args.right.now) in
    let left = least-denominators (terms_of value c.args.left.now)
    (combination_values value (pointwise nat_eq) is_monomial_label c.args.left.now
    c.iter-monomial-items.ensures.combination) in
    let right = least-denominators (terms_of value c.args.right.now)
    (combination_values value (pointwise nat_eq) is_monomial_label c.args.right.now
    c.len.ensures.combination) in
    weights-large (terms_of value c.args.left.now) (terms_of value c.args.right.now)
    (combination_values value (pointwise nat_eq) is_monomial_label c.args.left.now
    c.iter-monomial-items.ensures.combination)
    (combination_values value (pointwise nat_eq) is_monomial_label c.args.right.now
    c.len.ensures.combination)
    (λ small.
    let before = c.loop-monomial.invariant.gains d e left right in
    product_overflows d e (terms_of value c.args.left.now) (terms_of value c.args.right.now)
    (subst (λ l. OverflowsCleared (pointwise nat_eq) (d * e) []
    (times (over d l) (over e (terms_of value c.args.right.now)))) whole
    (Overflows-next (λ es. times (over d (terms_of value es))
    (over e (terms_of value c.args.right.now)))
    (product_pieces value d (over e (terms_of value c.args.right.now))) (d * e) done
    (k, v) [] (terms_of value c.loop-monomial.sum) before rest
    (c.in_err-add_row.ensures.large (ap Err (error_is _ _ _ c.from_residual.ensures.1 err)) d e
    (denominator_among left (k, value v) here) right small before.cleared))))

pub returns-clause-value : goal.returns-clause-value
returns-clause-value g c n =
    let value = g.R.Scalar.value in
    let left = (terms_of value c.args.left.now) in
    let right = (terms_of value c.args.right.now) in
    let d = denominators left in
    let e = denominators right in
    let done = map deref_pair c.loop-monomial.yielded in
    let is : terms_of value done ≡ left =
    ap (terms_of value)
    (all_done done c.loop-monomial.monomial-iterator _ _ c.in-None.ensures.steps.0
    c.loop-monomial.invariant.so_far c.into_iter-monomial-iterator.ensures.into_iter_gives)
    ∙ (ap (terms_of value) c.iter-monomial-items.ensures.rest) in
    let all = c.loop-monomial.invariant.gains d e
    (common-denominators left (combination_values value (pointwise nat_eq) is_monomial_label
    c.args.left.now c.iter-monomial-items.ensures.combination))
    (common-denominators right (combination_values value (pointwise nat_eq) is_monomial_label
    c.args.right.now c.len.ensures.combination)) in
    represents (terms_of value c.loop-monomial.sum) (d * e) n
    (times (value_in left n) (value_in right n))
    (table_gained (d * e) _ _ all) all.cleared
    (λ φ.
    all.gains.sums (restricted_test n φ)
    ∙ +ℤ_idl (pair (times (over d (terms_of value done)) (over e right)) (restricted_test n φ))
    ∙ ap (λ (l : Terms (List ℕ)). pair (times (over d l) (over e right)) (restricted_test n φ)) is
    ∙ product_value n left right φ)
