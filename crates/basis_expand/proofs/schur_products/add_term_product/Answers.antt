use Rattle.std.proofs.Common.{◌≡◌, ℕ, ◌*◌, [], ◌∷◌, ◌++◌, List, map, sym, ◌∙◌, ap, subst, ◌+ℤ◌}
use Rattle.std.proofs.Common.{◌*ℤ◌, refl}
use Rattle.std.specs.Int.{◌∣◌}
use Rattle.std.specs.Map.Iter.{deref_pair}
use Rattle.std.proofs.lemmas.List.{map-append}
use Rattle.sym_model.specs.Expansion.{Terms, Fraction}
use Rattle.sym_model.specs.Sum.{Among}
use Rattle.fraction_laws.specs.Fractions.{scaled}
use Rattle.fraction_laws.proofs.Cleared.{product-cleared}
use Rattle.linear_combinations.specs.Cleared.{IsDenominator}
use Rattle.linear_combinations.specs.Gains.{scaled as multiple}
use Rattle.linear_combinations.proofs.Cleared.{Gains-none, Gains-both}
use Rattle.linear_combinations.proofs.Gains.{all_pairs, next_among, so_far_next}
use Rattle.sparse_polys.proofs.Steps.{all_done}
use Rattle.basis_expand.specs.SchurLists.{row_at, product_at}
use Rattle.basis_expand.proofs.ListProducts.{row_next}
use Rattle.basis_expand.proofs.SchurTables.{ComeTo-multiple, ComeTo-both}
use Rattle.basis_expand.proofs.schur_products.add_term_product.Goals as goal
use native.Mathlib.Nat.{mul-pos}
use lib.IntN.{*ℤ-zero}

pub loop-other-init : goal.loop-other-init
loop-other-init c = record {
  sums =
      λ d e den common cleared. (
        [],
        λ n φ. sym (*ℤ-zero (scaled d c.args.c)),
        Gains-none (d * e) c.args.sum.now cleared,
      );
  so_far = refl;
}

pub loop-other-preserved : goal.loop-other-preserved
loop-other-preserved c =
    let done = map deref_pair c.loop-other.yielded in
    let rest = c.next.new.self in
    let k = c.in-Some.other.now in
    let v = c.in-Some.factor.now in
    let left = c.args.left.now in
    let here : Among (k, v) c.args.right.now =
    subst (Among (k, v))
    (all_pairs done rest c.loop-other.other-iterator _ _ c.args.right.now (k, v)
    c.in-Some.ensures.steps c.loop-other.invariant.so_far
    c.into_iter-other-iterator.ensures.into_iter_gives c.iter-other-items.ensures.rest)
    (next_among done (k, v) rest) in
    let pushed : done ++ (k, v) ∷ [] ≡ map deref_pair (c.loop-other.yielded ++ (
      c.in-Some.other,
      c.in-Some.factor,
    ) ∷ []) =
    sym (map-append deref_pair c.loop-other.yielded ((c.in-Some.other, c.in-Some.factor) ∷ [])) in
    record {
      sums =
          λ d e den common cleared.
          let before = c.loop-other.invariant.sums d e den common cleared in
          let next = c.in_ok-add_pair.ensures in
          let p = c.in-Some-mul.product in
          let u = product-cleared d e c.args.c v c.mul.ensures.held.0.lowest
          c.mul.ensures.held.1.lowest den.positive common.positive den.multiple
          (common.multiple (k, v) here) in
          let z = scaled (d * e) p in
          let pd : IsDenominator (d * e) p = record {
            positive = mul-pos den.positive common.positive;
            multiple = subst (λ (r : Fraction). r.1 ∣ (d * e))
                (sym c.in-Some-mul.ensures.answer.value) u.0;
          } in
          let is : scaled (d * e) p ≡ scaled d c.args.c *ℤ scaled e v =
          ap (scaled (d * e)) c.in-Some-mul.ensures.answer.value ∙ u.1 in (
            before.0 ++ multiple z next.0,
            ComeTo-both before.0 (multiple z next.0)
                (λ n φ. scaled d c.args.c *ℤ row_at left e done n φ)
                (λ n φ. scaled (d * e) p *ℤ product_at left k n φ)
                (λ n φ. scaled d c.args.c *ℤ row_at left e
                (map deref_pair (c.loop-other.yielded ++ (
                  c.in-Some.other,
                  c.in-Some.factor,
                ) ∷ [])) n φ)
                (λ n φ. ap (λ y. scaled d c.args.c *ℤ row_at left e done n φ
                +ℤ y *ℤ product_at left k n φ) is
                ∙ row_next left e done k v (scaled d c.args.c) n φ
                ∙ ap (λ (l : Terms (List ℕ)). scaled d c.args.c *ℤ row_at left e l n φ) pushed)
                before.1
                (ComeTo-multiple z next.0 (λ n φ. product_at left k n φ) next.1),
            Gains-both (d * e) c.args.sum.now before.0 c.loop-other.sum (multiple z next.0)
                c.add_pair.new.sum before.2 (next.2 (d * e) pd before.2.cleared),
          );
      so_far = so_far_next done rest c.loop-other.other-iterator _ _ (k, v) pushed
          c.in-Some.ensures.steps c.loop-other.invariant.so_far;
    }

pub returns : goal.returns
returns c d e den common cleared =
    let all : map deref_pair c.loop-other.yielded ≡ c.args.right.now =
    all_done (map deref_pair c.loop-other.yielded) c.loop-other.other-iterator _ _
    c.in-None.ensures.steps.0 c.loop-other.invariant.so_far
    c.into_iter-other-iterator.ensures.into_iter_gives ∙ c.iter-other-items.ensures.rest in
    let made = c.loop-other.invariant.sums d e den common cleared in (
      made.0,
      λ n φ.
          made.1 n φ
          ∙ ap (λ (l : Terms (List ℕ)). scaled d c.args.c *ℤ row_at c.args.left.now e l n φ) all,
      made.2,
    )
