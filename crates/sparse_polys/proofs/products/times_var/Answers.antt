use Rattle.std.proofs.Common.{◌≡◌, ℕ, [], ◌∷◌, ◌++◌, List, map, sym, ◌∙◌, ap, subst, arith, refl}
use Rattle.std.specs.Prelude.{nat_eq}
use Rattle.std.specs.Cmp.Lexicographic.{pointwise}
use Rattle.std.specs.Map.Iter.{deref_pair}
use Rattle.std.proofs.lemmas.List.{map-append}
use Rattle.sym_model.specs.DividedDifference.{variable_in}
use Rattle.sym_model.specs.Expansion.{Terms, denominators}
use Rattle.sym_model.specs.LabelLimits.{is_monomial_label}
use Rattle.sym_model.specs.Polynomial.{pair, times}
use Rattle.monomial_laws.specs.ExpressionTerms.{over}
use Rattle.fraction_laws.specs.Fractions.{scaled}
use Rattle.sparse_polys.specs.Combination.{terms_of, HasMoreAt}
use Rattle.sparse_polys.proofs.Steps.{all_done}
use Rattle.sparse_polys.proofs.Tables.{table_gained}
use Rattle.sparse_polys.proofs.ValueLists.{combination_values}
use Rattle.sparse_polys.specs.Products.{value_in, coefficient_at, times_variable, AreRaised}
use Rattle.linear_combinations.specs.Cleared.{GainsCleared}
use Rattle.sparse_polys.specs.Raised.{raised}
use Rattle.linear_combinations.proofs.Cleared.{Gains-none, Gains-next, AreCleared-nothing}
use Rattle.sparse_polys.proofs.ClearedSums.{Gains-term}
use Rattle.sparse_polys.proofs.ListSteps.{raised_pieces, list_whole, list_among, so_far_next}
use Rattle.sparse_polys.proofs.NewTerms.{lowest_among, new_label, labels_next}
use Rattle.sparse_polys.proofs.Raising.{size-raised}
use Rattle.sparse_polys.proofs.PolynomialValues.{represents, variable_value, common-denominators}
use Rattle.sym_model.proofs.PolynomialLaws.{restricted_test}
use Rattle.sparse_polys.proofs.products.times_var.Goals as goal
use lib.IntN.{+ℤ_idl}

pub loop-monomial-init : goal.loop-monomial-init
loop-monomial-init g c = record {
  gains = λ q common. subst (λ l. GainsCleared (pointwise nat_eq)
      is_monomial_label q [] [] (terms_of g.R.Scalar.value l))
      (sym c.new-product.ensures) (Gains-none q [] (AreCleared-nothing (pointwise nat_eq) q));
  labels = subst (λ l. AreRaised c.args.r [] (terms_of g.R.Scalar.value l))
      (sym c.new-product.ensures)
      (λ t m. absurd m);
  so_far = refl;
}

pub times_var-requires-clause-room : goal.times_var-requires-clause-room
times_var-requires-clause-room g c =
    let whole =
    list_whole g.R.Scalar.value (map deref_pair c.loop-monomial.yielded) c.next.new.self
    c.loop-monomial.monomial-iterator _ _ c.in-Some.monomial.now c.in-Some.c.now
    (terms_of g.R.Scalar.value c.args.list)
    c.in-Some.ensures.steps c.loop-monomial.invariant.so_far
    c.into_iter-monomial-iterator.ensures.into_iter_gives
    (ap (terms_of g.R.Scalar.value) c.iter-monomial-items.ensures.rest) in
    let room = c.requires.room _ (list_among g.R.Scalar.value
    (map deref_pair c.loop-monomial.yielded) c.next.new.self c.in-Some.monomial.now
    c.in-Some.c.now (terms_of g.R.Scalar.value c.args.list) whole) in
    let small = room.small in
    let s = size-raised c.args.r c.in-Some.monomial.now in
    omega arith

pub add_new-requires : goal.add_new-requires
add_new-requires g c =
    let value = g.R.Scalar.value in
    let done = map deref_pair c.loop-monomial.yielded in
    let rest = c.next.new.self in
    let k = c.in-Some.monomial.now in
    let v = c.in-Some.c.now in
    let whole =
    list_whole value done rest c.loop-monomial.monomial-iterator _ _ k v
    (terms_of value c.args.list)
    c.in-Some.ensures.steps c.loop-monomial.invariant.so_far
    c.into_iter-monomial-iterator.ensures.into_iter_gives
    (ap (terms_of value) c.iter-monomial-items.ensures.rest) in
    ap (coefficient_at (terms_of value c.loop-monomial.product)) c.in_ok-times_var.ensures
    ∙ new_label value c.args.r done rest k v (terms_of value c.args.list)
    (terms_of value c.loop-monomial.product)
    (combination_values value (pointwise nat_eq) is_monomial_label c.args.list
    c.iter-monomial-items.ensures.combination) whole c.loop-monomial.invariant.labels

pub loop-monomial-preserved : goal.loop-monomial-preserved
loop-monomial-preserved g c =
    let value = g.R.Scalar.value in
    let done = map deref_pair c.loop-monomial.yielded in
    let rest = c.next.new.self in
    let k = c.in-Some.monomial.now in
    let v = c.in-Some.c.now in
    let r = c.args.r in
    let cur = (terms_of value c.loop-monomial.product) in
    let new = (terms_of value c.add_new.new.sum) in
    let table = (combination_values value (pointwise nat_eq) is_monomial_label c.args.list
    c.iter-monomial-items.ensures.combination) in
    let whole =
    list_whole value done rest c.loop-monomial.monomial-iterator _ _ k v
    (terms_of value c.args.list)
    c.in-Some.ensures.steps c.loop-monomial.invariant.so_far
    c.into_iter-monomial-iterator.ensures.into_iter_gives
    (ap (terms_of value) c.iter-monomial-items.ensures.rest) in
    let here = list_among value done rest k v (terms_of value c.args.list) whole in
    let pushed : done ++ (k, v) ∷ [] ≡ map deref_pair
    (c.loop-monomial.yielded ++ (c.in-Some.monomial, c.in-Some.c) ∷ []) =
    sym (map-append deref_pair c.loop-monomial.yielded ((c.in-Some.monomial, c.in-Some.c) ∷ [])) in
    let more : HasMoreAt (pointwise nat_eq) cur (raised r k) (value v) new =
    subst (λ (l : List ℕ). HasMoreAt (pointwise nat_eq) cur l (value v) new)
    c.in_ok-times_var.ensures c.in_ok-add_new.ensures.more in
    record {
      gains =
          λ q common.
          let before = c.loop-monomial.invariant.gains q common in
          subst (λ es. GainsCleared (pointwise nat_eq) is_monomial_label q []
          (times_variable r (over q (terms_of value es))) new) pushed
          (Gains-next (λ es. times_variable r (over q (terms_of value es)))
          (raised_pieces value r q) q done (k, v) [] cur before (done ++ (k, v) ∷ []) new refl
          (Gains-term q cur new (raised r k)
          (value v) c.in_ok-add_new.ensures.was c.in_ok-add_new.ensures.combination
          (lowest_among (terms_of value c.args.list) table (k, value v) here)
          common.positive (common.multiple (k, value v) here) before.cleared more
          (scaled q (value v)) refl));
      labels = subst (λ es. AreRaised r (terms_of value es) new) pushed
          (labels_next value r done rest k v (terms_of value c.args.list) cur table whole
          c.loop-monomial.invariant.labels new
          c.in_ok-add_new.ensures.was c.in_ok-add_new.ensures.combination more);
      so_far = so_far_next done rest c.loop-monomial.monomial-iterator _ _ (k, v) pushed
          c.in-Some.ensures.steps c.loop-monomial.invariant.so_far;
    }

pub returns : goal.returns
returns g c n =
    let value = g.R.Scalar.value in
    let list = (terms_of value c.args.list) in
    let r = c.args.r in
    let d = denominators list in
    let done = map deref_pair c.loop-monomial.yielded in
    let is : terms_of value done ≡ list =
    ap (terms_of value)
    (all_done done c.loop-monomial.monomial-iterator _ _ c.in-None.ensures.steps.0
    c.loop-monomial.invariant.so_far c.into_iter-monomial-iterator.ensures.into_iter_gives)
    ∙ (ap (terms_of value) c.iter-monomial-items.ensures.rest) in
    let all = c.loop-monomial.invariant.gains d
    (common-denominators list (combination_values value (pointwise nat_eq) is_monomial_label
    c.args.list c.iter-monomial-items.ensures.combination)) in
    represents (terms_of value c.loop-monomial.product) d n
    (times (variable_in r n) (value_in list n))
    (table_gained d _ _ all) all.cleared
    (λ φ.
    all.gains.sums (restricted_test n φ)
    ∙ +ℤ_idl (pair (times_variable r (over d (terms_of value done))) (restricted_test n φ))
    ∙ ap (λ (l : Terms (List ℕ)). pair (times_variable r (over d l)) (restricted_test n φ)) is
    ∙ variable_value n r list φ)
