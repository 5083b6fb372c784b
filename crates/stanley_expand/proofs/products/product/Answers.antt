use Rattle.std.proofs.Common.{◌≡◌, [], ◌∷◌, ◌++◌, map, sym, ◌∙◌, subst, refl, List, ℕ, ℤ, ◌*ℤ◌}
use Rattle.std.specs.Map.Iter.{deref_pair}
use Rattle.std.proofs.lemmas.List.{map-append}
use Rattle.sym_model.specs.Sum.{Among}
use Rattle.sym_model.specs.Polynomial.{pair, times}
use Rattle.sym_model.specs.Schur.{schur}
use Rattle.sym_model.specs.WholeTerms.{WholeTerms}
use Rattle.linear_combinations.specs.Gains.{over}
use Rattle.linear_combinations.proofs.Gains.{all_pairs, next_among, so_far_next}
use Rattle.linear_combinations.proofs.Steps.{all_done}
use Rattle.stanley_expand.specs.Blocks.{IsAdded}
use Rattle.stanley_expand.proofs.SumsAdded.{none_added, both_added, over_next, product_sum}
use Rattle.stanley_expand.proofs.products.product.Goals as goal

pub loop-shape-init : goal.loop-shape-init
loop-shape-init c = record {
  added = subst (λ (l : WholeTerms). IsAdded c.args.rows [] (λ φ. over (λ κ. over (λ ν. pair (times (schur κ c.args.rows) (schur ν c.args.rows)) φ) c.args.right.now) []) l)
      (sym c.new-sum.ensures)
      (none_added c.args.rows [] (λ φ. over (λ κ. over (λ ν. pair (times (schur κ c.args.rows) (schur ν c.args.rows)) φ) c.args.right.now) []) (λ φ. refl));
  so_far = refl;
}

pub add_row-requires-clause-left : goal.add_row-requires-clause-left
add_row-requires-clause-left c =
    c.requires.left (c.in-Some.shape.now, c.in-Some.count.now) (subst (λ (l : WholeTerms). Among (c.in-Some.shape.now, c.in-Some.count.now) l)
    (all_pairs (map deref_pair c.loop-shape.yielded) c.next.new.self c.loop-shape.shape-iterator _ _ c.args.left.now (c.in-Some.shape.now, c.in-Some.count.now)
    c.in-Some.ensures.steps c.loop-shape.invariant.so_far c.into_iter-shape-iterator.ensures.into_iter_gives c.iter-shape-items.ensures.rest)
    (next_among (map deref_pair c.loop-shape.yielded) (c.in-Some.shape.now, c.in-Some.count.now) c.next.new.self))

pub loop-shape-preserved : goal.loop-shape-preserved
loop-shape-preserved c =
    let done = map deref_pair c.loop-shape.yielded in
    let κ = c.in-Some.shape.now in
    let z = c.in-Some.count.now in
    let m = c.args.rows in
    let row : List ℕ → (List ℕ → ℤ) → ℤ = λ μ φ. over (λ ν. pair (times (schur μ m) (schur ν m)) φ) c.args.right.now in
    let pushed : done ++ (κ, z) ∷ [] ≡ map deref_pair (c.loop-shape.yielded ++ (c.in-Some.shape, c.in-Some.count) ∷ []) =
    sym (map-append deref_pair c.loop-shape.yielded ((c.in-Some.shape, c.in-Some.count) ∷ [])) in
    record {
      added = both_added m [] (λ φ. over (λ μ. row μ φ) done) c.loop-shape.sum
          (λ φ. z *ℤ row κ φ) c.add_row.new.sum
          (λ φ. over (λ μ. row μ φ) (map deref_pair (c.loop-shape.yielded ++ (c.in-Some.shape, c.in-Some.count) ∷ [])))
          (λ φ. over_next (λ μ. row μ φ) done (map deref_pair (c.loop-shape.yielded ++ (c.in-Some.shape, c.in-Some.count) ∷ [])) κ z pushed)
          c.loop-shape.invariant.added c.in_ok-add_row.ensures;
      so_far = so_far_next done c.next.new.self c.loop-shape.shape-iterator _ _ (κ, z) pushed c.in-Some.ensures.steps c.loop-shape.invariant.so_far;
    }

pub returns : goal.returns
returns c f g a b =
    product_sum c.args.rows c.args.left.now c.args.right.now f g c.loop-shape.sum a b
    (subst (λ (l : WholeTerms). IsAdded c.args.rows []
    (λ φ. over (λ κ. over (λ ν. pair (times (schur κ c.args.rows) (schur ν c.args.rows)) φ) c.args.right.now) l) c.loop-shape.sum)
    (all_done (map deref_pair c.loop-shape.yielded) c.loop-shape.shape-iterator _ _
    c.in-None.ensures.steps.0 c.loop-shape.invariant.so_far
    (c.into_iter-shape-iterator.ensures.into_iter_gives ∙ c.iter-shape-items.ensures.rest))
    c.loop-shape.invariant.added)
