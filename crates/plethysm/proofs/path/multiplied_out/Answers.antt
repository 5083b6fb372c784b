use Rattle.std.proofs.Common.{◌≡◌, ◌∷◌, ◌++◌, [], List, ℕ, ℤ, map, sym, ◌∙◌, ap, subst}
use Rattle.std.proofs.Common.{Err, arith, inl, pos, ◌*◌, to_z-of_z}
use Rattle.std.specs.Int.{w128}
use Rattle.std.specs.Map.Iter.{deref_pair}
use Rattle.std.proofs.lemmas.List.{map-append}
use Rattle.sym_model.specs.Sum.{Among}
use Rattle.sym_model.specs.Partition.{size}
use Rattle.sym_model.specs.Polynomial.{Same, plus, scale}
use Rattle.sym_model.specs.WholeTerms.{WholeTerms, combined}
use Rattle.monomial_laws.specs.ExpressionTerms.{in_monomials, IsList}
use Rattle.linear_combinations.proofs.Gains.{all_pairs, next_among, so_far_next}
use Rattle.linear_combinations.proofs.Steps.{all_done, error_is}
use Rattle.sparse_polys.specs.Large.{SumIsLarge}
use Rattle.sparse_polys.specs.MonomialProducts.{greatest_size}
use Rattle.sparse_polys.proofs.Rows.{greatest_size-among}
use Rattle.plethysm.specs.PathSums.{power_sum_in, IsProductPast}
use Rattle.plethysm.proofs.PathSteps.{path-step, past-from_step, sum-value}
use Rattle.plethysm.proofs.path.multiplied_out.Goals as goal
use native.Mathlib.Nat.{mul-le-mul_right}

pub over_parts-requires-clause-low : goal.over_parts-requires-clause-low
over_parts-requires-clause-low c =
    let done = map deref_pair c.loop-label.yielded in
    let rest = c.next.new.self in
    let x : List ℕ × ℤ = (c.in-Some.label.now, c.in-Some.z.now) in
    let all =
    all_pairs done rest c.loop-label.label-iterator _ _ c.args.outer.now x c.in-Some.ensures.steps
    c.loop-label.invariant.so_far c.into_iter-label-iterator.ensures.into_iter_gives
    c.iter-label-items.ensures.rest in
    let here = subst (λ (es : WholeTerms). Among x es) all (next_among done x rest) in
    let m = mul-le-mul_right (greatest_size c.args.inner.now)
    (greatest_size-among c.args.outer.now x here) in
    let e = ap (λ (p : List ℕ). size p * greatest_size c.args.inner.now) c.parts.ensures.value in
    omega (arith, c.requires.low)

pub returns-in_err-product-clause-large : goal.returns-in_err-product-clause-large
returns-in_err-product-clause-large c err K b h =
    let done = map deref_pair c.loop-label.yielded in
    let rest = c.next.new.self in
    let x : List ℕ × ℤ = (c.in-Some.label.now, c.in-Some.z.now) in
    let all =
    all_pairs done rest c.loop-label.label-iterator _ _ c.args.outer.now x c.in-Some.ensures.steps
    c.loop-label.invariant.so_far c.into_iter-label-iterator.ensures.into_iter_gives
    c.iter-label-items.ensures.rest in
    let here = subst (λ (es : WholeTerms). Among x es) all (next_among done x rest) in
    inl (
      x,
      here,
      subst (IsProductPast K b) c.parts.ensures.value (c.in_err-product.ensures.large
          (ap Err (error_is _ _ _ c.from_residual.ensures.1 err)) K b h),
    )

pub returns-in_err-sum-clause-large : goal.returns-in_err-sum-clause-large
returns-in_err-sum-clause-large c err K b h =
    let done = map deref_pair c.loop-label.yielded in
    let rest = c.next.new.self in
    let x : List ℕ × ℤ = (c.in-Some.label.now, c.in-Some.z.now) in
    let all =
    all_pairs done rest c.loop-label.label-iterator _ _ c.args.outer.now x c.in-Some.ensures.steps
    c.loop-label.invariant.so_far c.into_iter-label-iterator.ensures.into_iter_gives
    c.iter-label-items.ensures.rest in
    let here = subst (λ (es : WholeTerms). Among x es) all (next_among done x rest) in
    let z = to_z-of_z {w = w128} {z = c.get.result} (record { sfits = c.get.type_inv })
    ∙ c.get.ensures in
    let list : IsList c.in_ok-product.product (power_sum_in c.args.inner.now x.0) =
    subst (λ (p : List ℕ). IsList c.in_ok-product.product (power_sum_in c.args.inner.now p))
    c.parts.ensures.value c.in_ok-product.ensures.value in
    past-from_step K b c.args.inner.now c.loop-label.sum c.in_ok-product.product done rest
    c.args.outer.now x all list c.loop-label.invariant.value
    (subst (λ y. SumIsLarge c.loop-label.sum c.in_ok-product.product (pos 1) y) z
    (c.in_err-sum.ensures.large
    (ap Err (error_is _ _ _ c.from_residual-in_err-sum.ensures.1 err))))

pub loop-label-preserved : goal.loop-label-preserved
loop-label-preserved c =
    let done = map deref_pair c.loop-label.yielded in
    let x : List ℕ × ℤ = (c.in-Some.label.now, c.in-Some.z.now) in
    let pushed : done ++ x ∷ [] ≡ map deref_pair (c.loop-label.yielded ++ (
      c.in-Some.label,
      c.in-Some.z,
    ) ∷ []) =
    sym (map-append deref_pair c.loop-label.yielded ((c.in-Some.label, c.in-Some.z) ∷ [])) in
    let z = to_z-of_z {w = w128} {z = c.get.result} (record { sfits = c.get.type_inv })
    ∙ c.get.ensures in
    let list : IsList c.in_ok-product.product (power_sum_in c.args.inner.now x.0) =
    subst (λ (p : List ℕ). IsList c.in_ok-product.product (power_sum_in c.args.inner.now p))
    c.parts.ensures.value c.in_ok-product.ensures.value in
    record {
      value = λ n.
          subst (λ (es : WholeTerms). Same (in_monomials c.in_ok-sum.sum n)
          (combined (λ label. power_sum_in c.args.inner.now label n) es)) pushed
          (path-step n c.args.inner.now c.loop-label.sum c.in_ok-sum.sum done x
          (c.loop-label.invariant.value n)
          (sum-value c.loop-label.sum c.in_ok-product.product c.in_ok-sum.sum x.1
          (power_sum_in c.args.inner.now x.0)
          (subst (λ y. Same c.in_ok-sum.sum (plus (scale (pos 1) c.loop-label.sum)
          (scale y c.in_ok-product.product))) z c.in_ok-sum.ensures.value) list n));
      so_far = so_far_next done c.next.new.self c.loop-label.label-iterator _ _ x pushed
          c.in-Some.ensures.steps c.loop-label.invariant.so_far;
    }

pub returns-clause-value : goal.returns-clause-value
returns-clause-value c =
    let entries = all_done (map deref_pair c.loop-label.yielded) c.loop-label.label-iterator _ _
    c.in-None.ensures.steps.0 c.loop-label.invariant.so_far
    c.into_iter-label-iterator.ensures.into_iter_gives in
    λ n.
    subst (λ (es : WholeTerms). Same (in_monomials c.loop-label.sum n)
    (combined (λ label. power_sum_in c.args.inner.now label n) es)) (entries ∙ c.iter-label-items.ensures.rest)
    (c.loop-label.invariant.value n)
