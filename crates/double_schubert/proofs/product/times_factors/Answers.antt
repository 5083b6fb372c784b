use Rattle.std.proofs.Common.{◌≡◌, ℕ, ◌+◌, List, [], ◌∷◌, ◌++◌, length, refl, sym, ap, ◌∙◌, arith}
use Rattle.std.specs.Prelude.{Err}
use Rattle.std.specs.Vec.Iter.{into_iter_items}
use Rattle.std.proofs.lemmas.Grind.{common_steps}
use Rattle.sym_model.specs.DoubleSchubert.{shifted_in}
use Rattle.sym_model.specs.PlaceOrders.{inversions}
use Rattle.sym_model.specs.Polynomial.{pair, times}
use Rattle.linear_combinations.proofs.Gains.{so_far_next}
use Rattle.linear_combinations.proofs.Steps.{error_is}
use Rattle.transition_walk.specs.Waiting.{value_of}
use Rattle.double_schubert.specs.ByPermutations.{at_pairs}
use Rattle.double_schubert.specs.LinearFactors.{product_in}
use Rattle.double_schubert.proofs.EightLetters.{inversions_of_eight}
use Rattle.double_schubert.proofs.LinearProducts.{times_next}
use Rattle.double_schubert.proofs.FactorProducts.{room, next_bounds, next_power, next_large, first_bounds}
use Rattle.double_schubert.proofs.FactorProducts.{first_power, member, counted, last_value}
use Rattle.double_schubert.proofs.product.times_factors.Goals as goal
use Rattle.std.proofs.lemmas.List.{length_push}

pub loop-r-init : goal.loop-r-init
loop-r-init c = record {
  value = λ n φ.
      ap (λ (fs : List (ℕ × ℕ)). value_of (at_pairs (λ label. pair (times (product_in n fs) (shifted_in label n)) φ)) c.in_ok-sum.sum.items)
      c.into_iter-r-iterator.ensures.into_iter_gives.0
      ∙ c.in_ok-sum.ensures.value (λ label. pair (times (product_in n c.args.factors.items) (shifted_in label n)) φ);
  bounds = λ m w few. first_bounds m (inversions c.args.perm.now) c.in_ok-sum.sum.items (c.in_ok-sum.ensures.bounds m few);
  weight = λ m w few. first_power _ _ c.in_ok-sum.ensures.weight;
  so_far = c.into_iter-r-iterator.ensures.into_iter_gives.0;
}

pub times_factor-requires-clause-first : goal.times_factor-requires-clause-first
times_factor-requires-clause-first c =
    (c.requires.places (c.in-Some.r, c.in-Some.c) (member c.loop-r.yielded (into_iter_items c.next.new.self) _ c.args.factors.items (c.in-Some.r, c.in-Some.c)
    c.in-Some.ensures.steps.0 c.loop-r.invariant.so_far)).first

pub times_factor-requires-clause-last : goal.times_factor-requires-clause-last
times_factor-requires-clause-last c =
    let f = c.requires.places (c.in-Some.r, c.in-Some.c) (member c.loop-r.yielded (into_iter_items c.next.new.self) _ c.args.factors.items (c.in-Some.r, c.in-Some.c)
    c.in-Some.ensures.steps.0 c.loop-r.invariant.so_far) in
    let l = f.last in
    omega arith

pub times_factor-requires-clause-column : goal.times_factor-requires-clause-column
times_factor-requires-clause-column c =
    (c.requires.places (c.in-Some.r, c.in-Some.c) (member c.loop-r.yielded (into_iter_items c.next.new.self) _ c.args.factors.items (c.in-Some.r, c.in-Some.c)
    c.in-Some.ensures.steps.0 c.loop-r.invariant.so_far)).column

pub times_factor-requires-clause-last_column : goal.times_factor-requires-clause-last_column
times_factor-requires-clause-last_column c =
    let f = c.requires.places (c.in-Some.r, c.in-Some.c) (member c.loop-r.yielded (into_iter_items c.next.new.self) _ c.args.factors.items (c.in-Some.r, c.in-Some.c)
    c.in-Some.ensures.steps.0 c.loop-r.invariant.so_far) in
    let l = f.last_column in
    omega arith

pub times_factor-requires-clause-bounds : goal.times_factor-requires-clause-bounds
times_factor-requires-clause-bounds c =
    let k = counted c.loop-r.yielded (into_iter_items c.next.new.self) _ c.args.factors.items (c.in-Some.r, c.in-Some.c)
    c.in-Some.ensures.steps.0 c.loop-r.invariant.so_far in
    let few = c.requires.few in
    room (length c.loop-r.yielded) (inversions c.args.perm.now) c.loop-r.sum.items (omega arith)
    (inversions_of_eight c.args.perm.now c.requires.letters) (c.loop-r.invariant.bounds 8 c.requires.places c.requires.letters)

pub returns-in_err-sum-2-clause-large : goal.returns-in_err-sum-2-clause-large
returns-in_err-sum-2-clause-large c err m w few =
    let k = counted c.loop-r.yielded (into_iter_items c.next.new.self) _ c.args.factors.items (c.in-Some.r, c.in-Some.c)
    c.in-Some.ensures.steps.0 c.loop-r.invariant.so_far in
    let f = w (c.in-Some.r, c.in-Some.c) (member c.loop-r.yielded (into_iter_items c.next.new.self) _ c.args.factors.items (c.in-Some.r, c.in-Some.c)
    c.in-Some.ensures.steps.0 c.loop-r.invariant.so_far) in
    let l = f.last in
    next_large (m + length c.args.factors.items + 2) (m + length c.loop-r.yielded + 2) (length c.loop-r.yielded) (length c.args.factors.items) _
    k (omega arith) (omega arith) (c.loop-r.invariant.weight m w few)
    (c.in_err-sum-2.ensures.large (ap Err (error_is _ _ _ c.from_residual-in_err-sum-2.ensures.1 err))
    (m + length c.loop-r.yielded) (m + inversions c.args.perm.now + (length c.loop-r.yielded + length c.loop-r.yielded))
    (omega arith) (c.loop-r.invariant.bounds m w few))

pub loop-r-preserved : goal.loop-r-preserved
loop-r-preserved c =
    let k = counted c.loop-r.yielded (into_iter_items c.next.new.self) _ c.args.factors.items (c.in-Some.r, c.in-Some.c)
    c.in-Some.ensures.steps.0 c.loop-r.invariant.so_far in
    let inside = member c.loop-r.yielded (into_iter_items c.next.new.self) _ c.args.factors.items (c.in-Some.r, c.in-Some.c)
    c.in-Some.ensures.steps.0 c.loop-r.invariant.so_far in
    let more = length_push c.loop-r.yielded (c.in-Some.r, c.in-Some.c) in
    record {
      value = λ n φ.
          c.in_ok-sum-2.ensures.value
          (λ label. pair (times (product_in n (into_iter_items c.next.new.self)) (shifted_in label n)) φ)
          (λ label. pair (times (product_in n ((c.in-Some.r, c.in-Some.c) ∷ into_iter_items c.next.new.self)) (shifted_in label n)) φ)
          (λ label o. times_next n φ (c.in-Some.r, c.in-Some.c) (into_iter_items c.next.new.self) label o (c.requires.places (c.in-Some.r, c.in-Some.c) inside).first)
          ∙ ap (λ (fs : List (ℕ × ℕ)). value_of (at_pairs (λ label. pair (times (product_in n fs) (shifted_in label n)) φ)) c.loop-r.sum.items)
          (sym c.in-Some.ensures.steps.0)
          ∙ c.loop-r.invariant.value n φ;
      bounds = λ m w few.
          let l = (w (c.in-Some.r, c.in-Some.c) inside).last in
          next_bounds m (length c.loop-r.yielded) (inversions c.args.perm.now) (length (c.loop-r.yielded ++ (c.in-Some.r, c.in-Some.c) ∷ [])) c.in_ok-sum-2.sum.items more
          (c.in_ok-sum-2.ensures.bounds (m + length c.loop-r.yielded) (m + inversions c.args.perm.now + (length c.loop-r.yielded + length c.loop-r.yielded))
          (omega arith) (c.loop-r.invariant.bounds m w few));
      weight = λ m w few.
          let l = (w (c.in-Some.r, c.in-Some.c) inside).last in
          next_power (m + length c.args.factors.items + 2) (m + length c.loop-r.yielded + 2) (length c.loop-r.yielded) (length (c.loop-r.yielded ++ (c.in-Some.r, c.in-Some.c) ∷ [])) _ _
          (omega arith) (omega arith) (c.loop-r.invariant.weight m w few)
          (c.in_ok-sum-2.ensures.weight (m + length c.loop-r.yielded) (m + inversions c.args.perm.now + (length c.loop-r.yielded + length c.loop-r.yielded))
          (omega arith) (c.loop-r.invariant.bounds m w few));
      so_far = so_far_next c.loop-r.yielded (into_iter_items c.next.new.self) _ _ (c.loop-r.yielded ++ (c.in-Some.r, c.in-Some.c) ∷ []) (c.in-Some.r, c.in-Some.c) refl
          c.in-Some.ensures.steps.0 c.loop-r.invariant.so_far;
    }

pub returns-clause-value : goal.returns-clause-value
returns-clause-value c n φ =
    let none : into_iter_items c.loop-r.r-iterator ≡ [] = grind (arith, common_steps) in
    last_value n φ c.loop-r.sum.items
    ∙ ap (λ (fs : List (ℕ × ℕ)). value_of (at_pairs (λ label. pair (times (product_in n fs) (shifted_in label n)) φ)) c.loop-r.sum.items) (sym none)
    ∙ c.loop-r.invariant.value n φ
