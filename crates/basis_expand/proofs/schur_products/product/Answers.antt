use Rattle.std.proofs.Common.{◌≡◌, ℕ, ◌*◌, [], ◌∷◌, ◌++◌, List, map, sym, ◌∙◌, ap, subst, ◌*ℤ◌}
use Rattle.std.proofs.Common.{refl}
use Rattle.std.specs.Map.Iter.{deref_pair}
use Rattle.std.proofs.lemmas.List.{map-append}
use Rattle.std.specs.Prelude.{nat_eq}
use Rattle.std.specs.Cmp.Lexicographic.{pointwise}
use Rattle.sym_model.specs.Expansion.{Terms}
use Rattle.sym_model.specs.Sum.{Among}
use Rattle.sym_model.specs.LabelLimits.{is_label}
use Rattle.linear_combinations.specs.Cleared.{GainsCleared}
use Rattle.linear_combinations.proofs.Cleared.{denominator_among, AreCleared-nothing, Gains-none}
use Rattle.linear_combinations.proofs.Cleared.{Gains-both}
use Rattle.linear_combinations.proofs.Gains.{all_pairs, next_among, so_far_next}
use Rattle.sparse_polys.proofs.Steps.{all_done}
use Rattle.fraction_laws.specs.Fractions.{scaled}
use Rattle.basis_expand.specs.SchurLists.{row_at, products_at}
use Rattle.basis_expand.proofs.ListProducts.{products_next, product-list}
use Rattle.basis_expand.proofs.SchurTables.{ComeTo-both}
use Rattle.basis_expand.proofs.schur_products.product.Goals as goal

pub loop-label-init : goal.loop-label-init
loop-label-init c = record {
  sums =
      λ d e left right. (
        [],
        λ n φ. refl,
        subst (λ (l : Terms (List ℕ)). GainsCleared (pointwise nat_eq) is_label (d * e) [] [] l)
            (sym c.new-sum.ensures)
            (Gains-none (d * e) [] (AreCleared-nothing (pointwise nat_eq) (d * e))),
      );
  so_far = refl;
}

pub loop-label-preserved : goal.loop-label-preserved
loop-label-preserved c =
    let done = map deref_pair c.loop-label.yielded in
    let rest = c.next.new.self in
    let k = c.in-Some.label.now in
    let v = c.in-Some.c.now in
    let other = c.args.right.now in
    let here : Among (k, v) c.args.left.now =
    subst (Among (k, v))
    (all_pairs done rest c.loop-label.label-iterator _ _ c.args.left.now (k, v)
    c.in-Some.ensures.steps c.loop-label.invariant.so_far
    c.into_iter-label-iterator.ensures.into_iter_gives c.iter-label-items.ensures.rest)
    (next_among done (k, v) rest) in
    let pushed : done ++ (k, v) ∷ [] ≡ map deref_pair (c.loop-label.yielded ++ (
      c.in-Some.label,
      c.in-Some.c,
    ) ∷ []) =
    sym (map-append deref_pair c.loop-label.yielded ((c.in-Some.label, c.in-Some.c) ∷ [])) in
    record {
      sums =
          λ d e left right.
          let before = c.loop-label.invariant.sums d e left right in
          let next = c.in_ok-add_term_product.ensures d e
          (denominator_among left (k, v) here) right before.2.cleared in (
            before.0 ++ next.0,
            ComeTo-both before.0 next.0
                (λ n φ. products_at d done e other n φ)
                (λ n φ. scaled d v *ℤ row_at k e other n φ)
                (λ n φ. products_at d (map deref_pair (c.loop-label.yielded ++ (
                  c.in-Some.label,
                  c.in-Some.c,
                ) ∷ [])) e other n φ)
                (λ n φ. products_next d done k v e other n φ
                ∙ ap (λ (l : Terms (List ℕ)). products_at d l e other n φ) pushed)
                before.1 next.1,
            Gains-both (d * e) [] before.0 c.loop-label.sum next.0 c.add_term_product.new.sum
                before.2 next.2,
          );
      so_far = so_far_next done rest c.loop-label.label-iterator _ _ (k, v) pushed
          c.in-Some.ensures.steps c.loop-label.invariant.so_far;
    }

pub returns : goal.returns
returns c =
    let left = c.args.left.now in
    let right = c.args.right.now in
    let all : map deref_pair c.loop-label.yielded ≡ c.args.left.now =
    all_done (map deref_pair c.loop-label.yielded) c.loop-label.label-iterator _ _
    c.in-None.ensures.steps.0 c.loop-label.invariant.so_far
    c.into_iter-label-iterator.ensures.into_iter_gives ∙ c.iter-label-items.ensures.rest in
    product-list left right c.loop-label.sum
    (λ d e common other.
    let made = c.loop-label.invariant.sums d e common other in (
      made.0,
      λ n φ. made.1 n φ ∙ ap (λ (l : Terms (List ℕ)). products_at d l e right n φ) all,
      made.2,
    ))
