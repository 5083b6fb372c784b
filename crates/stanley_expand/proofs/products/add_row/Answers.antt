use Rattle.std.proofs.Common.{◌≡◌, [], ◌∷◌, ◌++◌, map, sym, ◌∙◌, subst, refl, ◌*ℤ◌}
use Rattle.std.specs.Map.Iter.{deref_pair}
use Rattle.std.proofs.lemmas.List.{map-append}
use Rattle.sym_model.specs.Sum.{Among}
use Rattle.sym_model.specs.Polynomial.{pair, times}
use Rattle.sym_model.specs.Schur.{schur}
use Rattle.sym_model.specs.WholeTerms.{WholeTerms}
use Rattle.linear_combinations.specs.Gains.{over}
use Rattle.linear_combinations.proofs.Gains.{all_pairs, next_among, so_far_next}
use Rattle.linear_combinations.proofs.Steps.{all_done}
use Rattle.stanley_expand.specs.Blocks.{IsAdded}
use Rattle.stanley_expand.proofs.SumsAdded.{none_added, both_added, multiple_next}
use Rattle.stanley_expand.proofs.products.add_row.Goals as goal
use lib.IntN.{*ℤ-zero}

pub loop-shape-init : goal.loop-shape-init
loop-shape-init c = record {
  added = none_added c.args.rows c.args.sum.now (λ φ. c.args.count *ℤ over (λ κ. pair (times (schur c.args.left.now c.args.rows) (schur κ c.args.rows)) φ) []) (λ φ. *ℤ-zero c.args.count);
  so_far = refl;
}

pub add_pair-requires-clause-right : goal.add_pair-requires-clause-right
add_pair-requires-clause-right c =
    c.requires.right (c.in-Some.shape.now, c.in-Some.more.now) (subst (λ (l : WholeTerms). Among (c.in-Some.shape.now, c.in-Some.more.now) l)
    (all_pairs (map deref_pair c.loop-shape.yielded) c.next.new.self c.loop-shape.shape-iterator _ _ c.args.right.now (c.in-Some.shape.now, c.in-Some.more.now)
    c.in-Some.ensures.steps c.loop-shape.invariant.so_far c.into_iter-shape-iterator.ensures.into_iter_gives c.iter-shape-items.ensures.rest)
    (next_among (map deref_pair c.loop-shape.yielded) (c.in-Some.shape.now, c.in-Some.more.now) c.next.new.self))

pub loop-shape-preserved : goal.loop-shape-preserved
loop-shape-preserved c =
    let done = map deref_pair c.loop-shape.yielded in
    let κ = c.in-Some.shape.now in
    let z = c.in-Some.more.now in
    let m = c.args.rows in
    let left = c.args.left.now in
    let pushed : done ++ (κ, z) ∷ [] ≡ map deref_pair (c.loop-shape.yielded ++ (c.in-Some.shape, c.in-Some.more) ∷ []) =
    sym (map-append deref_pair c.loop-shape.yielded ((c.in-Some.shape, c.in-Some.more) ∷ [])) in
    record {
      added = both_added m c.args.sum.now (λ φ. c.args.count *ℤ over (λ ν. pair (times (schur left m) (schur ν m)) φ) done) c.loop-shape.sum
          (λ φ. c.in_ok-product_of.field-0 *ℤ pair (times (schur left m) (schur κ m)) φ) c.add_pair.new.sum
          (λ φ. c.args.count *ℤ over (λ ν. pair (times (schur left m) (schur ν m)) φ) (map deref_pair (c.loop-shape.yielded ++ (c.in-Some.shape, c.in-Some.more) ∷ [])))
          (λ φ. multiple_next c.args.count c.in_ok-product_of.field-0 (λ ν. pair (times (schur left m) (schur ν m)) φ) done
          (map deref_pair (c.loop-shape.yielded ++ (c.in-Some.shape, c.in-Some.more) ∷ [])) κ z c.in_ok-product_of.ensures pushed)
          c.loop-shape.invariant.added c.in_ok-add_pair.ensures;
      so_far = so_far_next done c.next.new.self c.loop-shape.shape-iterator _ _ (κ, z) pushed c.in-Some.ensures.steps c.loop-shape.invariant.so_far;
    }

pub returns : goal.returns
returns c =
    subst (λ (l : WholeTerms). IsAdded c.args.rows c.args.sum.now
    (λ φ. c.args.count *ℤ over (λ ν. pair (times (schur c.args.left.now c.args.rows) (schur ν c.args.rows)) φ) l) c.loop-shape.sum)
    (all_done (map deref_pair c.loop-shape.yielded) c.loop-shape.shape-iterator _ _
    c.in-None.ensures.steps.0 c.loop-shape.invariant.so_far
    (c.into_iter-shape-iterator.ensures.into_iter_gives ∙ c.iter-shape-items.ensures.rest))
    c.loop-shape.invariant.added
