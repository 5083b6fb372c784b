-- Lemmas used by the implementation of the trait `Reduction` for reflections into the alcove.
use Rattle.std.proofs.Common.{◌≡◌, ℕ, ◌+◌, ◌<◌, ◌≤◌, Bool, true, cond, nat_le, nat_eq, List, []}
use Rattle.std.proofs.Common.{◌∷◌, ◌++◌, length, refl, sym, ◌∙◌, ap, ap₂, subst, inl, inr, arith, ℤ}
use Rattle.std.proofs.Common.{pos, ◌*ℤ◌, Option, Some, None}
use Rattle.std.specs.Cmp.Lexicographic.{pointwise}
use Rattle.std.proofs.lemmas.Bool.Decides.{nat_tests}
use Rattle.fraction_laws.specs.Fractions.{whole}
use Rattle.sym_model.specs.Alternant.{staircase}
use Rattle.sym_model.specs.BetaList.{beta}
use Rattle.sym_model.specs.AlcoveReduction.{reflected_into_alcove, as_partition, alcove_reduction}
use Rattle.sym_model.specs.Canonical.{is_label}
use Rattle.sym_model.specs.Partition.{IsPartition, size, rows}
use Rattle.sym_model.specs.Polynomial.{same, scale}
use Rattle.sym_model.specs.WholeTerms.{WholeTerms}
use Rattle.sym_model.specs.Products.{classical_product}
use Rattle.sym_model.specs.Reductions.{reflected_term, reflected_terms}
use Rattle.sym_model.specs.ReductionSteps.{IsFusionStep}
use Rattle.sym_model.proofs.Exponents.{same_refl, same_true}
use Rattle.beta_list_laws.proofs.BetaLists.{beta_strict, length-beta, rows-from_beta}
use Rattle.beta_list_laws.proofs.BetaLists.{size-from_beta, size-beta}
use Rattle.beta_list_laws.proofs.Windows.{length-end}
use Rattle.beta_list_laws.proofs.AlcoveEnds.{Reduced, alcove_reduced}
use Rattle.product_laws.specs.FactorSteps.{fused}
use Rattle.sparse_polys.proofs.Accumulating.{at_same}
use Rattle.linear_combinations.specs.Entries.{IsCombination}
use Rattle.linear_combinations.specs.Gains.{over, mass, scaled, replaced, HaveLabels, Gains}
use Rattle.linear_combinations.proofs.Labels.{same_partition}
use Rattle.reduction_laws.specs.Collected.{IsSign}
use Rattle.reduction_laws.specs.ReducedLists.{at_shape, reduced_shape}
use Rattle.reduction_laws.specs.Reductions.{multiplied}
use Rattle.reduction_laws.proofs.SignLaws.{answer_sign, alcove_is, sign_light}
use Rattle.reduction_laws.proofs.StepLaws.{collected_table, sums_gained}
use Rattle.sym_model.proofs.Polynomials.{same_from_pair}

pub start_shape : (first : List ℕ) → (first ≡ first) × (size first ≡ size first)
start_shape first = (refl, refl)

pub shape_within : (label : List ℕ) → size label ≤ size label
shape_within label = omega arith

pub shape_light : (k n : ℕ) (label μ : List ℕ) → mass (reduced_shape k n label μ) ≤ 1
shape_light k n label μ = by (alcove_reduction k n μ) (alcove_is k n μ)
  where
    by : (r : Option (List ℕ × ℤ)) → IsSign (answer_sign (pos 1) r) → mass (at_shape r) ≤ 1
    by None s = omega arith
    by (Some r) s = let l = sign_light r.1 s in omega arith

-- ---- partitions with at most k rows and at most a given number of cells

abbrev pub ShapeFits : ℕ → ℕ → List ℕ → Type 0
ShapeFits k most shape = (rows shape ≤ k) × (size shape ≤ most)

-- if the reduction of a partition into the alcove is not None, the reduced partition has at most k rows and at most `most` cells
abbrev pub EndFits : ℕ → ℕ → Option (List ℕ × ℤ) → Type 0
EndFits k most None = Unit {0}
EndFits k most (Some end) = ShapeFits k most end.0

alcove_fits : (k n : ℕ) (shape : List ℕ) → 1 ≤ n → IsPartition shape → rows shape ≤ k
    → EndFits k (size shape) (alcove_reduction k n shape)
alcove_fits k n shape h p few =
    let t : nat_le (rows shape) k ≡ true = grind (arith, nat_tests) in
    subst (λ (b : Bool). EndFits k (size shape)
    (cond b (as_partition (reflected_into_alcove n (beta k shape))) None)) (sym t)
    (by (reflected_into_alcove n (beta k shape))
    (alcove_reduced n (beta k shape) h (beta_strict k shape p.falls)))
  where
    by : (r : Option (List ℕ × ℤ)) → Reduced n (beta k shape) r
        → EndFits k (size shape) (as_partition r)
    by None d = tt
    by (Some end) d =
        let long : length end.0 ≡ k = length-end n (beta k shape) end.0 d.1 ∙ length-beta k shape in
        let r = rows-from_beta end.0 in
        let s = size-from_beta end.0 d.1.strict in
        let b = size-beta k shape p few in
        let e = d.1.sum in
        let stairs : size (staircase (length end.0)) ≡ size (staircase k) =
        ap (λ m. size (staircase m)) long in
        (omega arith, omega arith)

pub shape_room : (k n : ℕ) (label μ : List ℕ) → (1 ≤ k) × (k ≤ 64) × (k < n) × (n ≤ 512)
    → IsPartition μ → rows μ ≤ k
    → HaveLabels (λ (m : List ℕ). (rows m ≤ k) × (size m + size label ≤ size label + size μ))
    (reduced_shape k n label μ)
shape_room k n label μ rule p few =
    by (alcove_reduction k n μ)
    (alcove_fits k n μ (let a = rule.0 in let b = rule.2 in omega arith) p few)
  where
    by : (r : Option (List ℕ × ℤ)) → EndFits k (size μ) r
        → HaveLabels (λ (m : List ℕ). (rows m ≤ k) × (size m + size label ≤ size label + size μ))
        (at_shape r)
    by None f t m = absurd m
    by (Some r) f t (inl e) =
        subst (λ (u : List ℕ × ℤ). (rows u.0 ≤ k) × (size u.0 + size label ≤ size label + size μ))
        (sym e) (f.0, (let s = f.1 in omega arith))
    by (Some r) f t (inr m) = absurd m

products_fused : (k n : ℕ) (c : ℤ) (label : List ℕ) (xs : WholeTerms)
    → scaled c (replaced (reduced_shape k n label) xs) ≡ scale c (reflected_terms k n xs)
products_fused k n c label [] = refl
products_fused k n c label (t ∷ xs) = by (alcove_reduction k n t.0) (products_fused k n c label xs)
  where
    by : (r : Option (List ℕ × ℤ))
        → scaled c (replaced (reduced_shape k n label) xs) ≡ scale c (reflected_terms k n xs)
        → scaled c (scaled t.1 (at_shape r) ++ replaced (reduced_shape k n label) xs)
        ≡ scale c (reflected_term t.1 r ++ reflected_terms k n xs)
    by None e = e
    by (Some r) e = ap (λ (l : WholeTerms). (r.0, c *ℤ (t.1 *ℤ r.1)) ∷ l) e

multiplied_fused : (k n : ℕ) (factor : List ℕ) (terms : WholeTerms)
    → multiplied k (λ shape. shape) (reduced_shape k n) factor terms ≡ fused k n factor terms
multiplied_fused k n factor [] = refl
multiplied_fused k n factor (t ∷ terms) =
    ap₂ (λ (x y : WholeTerms). x ++ y)
    (products_fused k n t.1 t.0 (classical_product k (t.0 ∷ factor ∷ [])))
    (multiplied_fused k n factor terms)

pub shape_made : (k n : ℕ) (factor : List ℕ) (terms next : WholeTerms)
    → (1 ≤ k) × (k ≤ 64) × (k < n) × (n ≤ 512)
    → IsCombination (pointwise nat_eq) is_label whole next
    → Gains [] (multiplied k (λ shape. shape) (reduced_shape k n) factor terms) next
    → IsFusionStep k n factor terms next
shape_made k n factor terms next rule is gains = record {
  collected =
      collected_table (pointwise nat_eq) same same_partition at_same same_true same_refl is_label
      next is;
  sums = same_from_pair next (fused k n factor terms) (λ φ. sums_gained (multiplied k (λ shape. shape) (reduced_shape k n) factor terms) next gains
      φ ∙ ap (λ l. over φ l) (multiplied_fused k n factor terms));
}

-- let `next` be a result of a step of a fusion product from `terms` with `factor`, and let each label of `other` occur once, with a coefficient other
-- than 0 (`IsCombination`). If, for every φ, the sum of c·φ(label) over the terms (label, c) of `other` is equal to the same sum for `next`, then
-- `other` is also a result of this step
pub shape_other : (k n : ℕ) (factor : List ℕ) (terms next other : WholeTerms)
    → IsCombination (pointwise nat_eq) is_label whole other
    → ((φ : List ℕ → ℤ) → over φ other ≡ over φ next) → IsFusionStep k n factor terms next
    → IsFusionStep k n factor terms other
shape_other k n factor terms next other is e s = record {
  collected =
      collected_table (pointwise nat_eq) same same_partition at_same same_true same_refl is_label
      other is;
  sums = λ label. same_from_pair other next e label ∙ s.sums label;
}
