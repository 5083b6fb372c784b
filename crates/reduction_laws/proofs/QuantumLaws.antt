-- Lemmas used by the implementation of the trait `Reduction` for rim hooks.
use Rattle.std.proofs.Common.{◌≡◌, ℕ, ◌+◌, ◌*◌, ◌<◌, ◌≤◌, true, ◌&&◌, nat_eq, List, [], ◌∷◌, ◌++◌}
use Rattle.std.proofs.Common.{refl, sym, ◌∙◌, ap, ap₂, subst, inl, inr, arith, ℤ, pos, ◌*ℤ◌, Some}
use Rattle.std.proofs.Common.{None}
use Rattle.std.specs.Cmp.Lexicographic.{pointwise}
use Rattle.std.proofs.lemmas.Bool.{and_from, eq-eqb}
use Rattle.std.proofs.Math.Nat.{mul-le-mul_left}
use Rattle.fraction_laws.specs.Fractions.{whole}
use Rattle.sym_model.specs.LabelLimits.{is_power_label}
use Rattle.sym_model.specs.Partition.{IsPartition, size, rows}
use Rattle.sym_model.specs.RimHookReduction.{ReducesTo}
use Rattle.sym_model.specs.WholeTerms.{WholeTerms, same_power}
use Rattle.sym_model.specs.Reductions.{Reduction, reduced_terms}
use Rattle.sym_model.specs.Products.{classical_product}
use Rattle.sym_model.specs.ReductionSteps.{shape_of, IsQuantumStep, with_power}
use Rattle.beta_list_laws.specs.LowestList.{reduction_by_remainders}
use Rattle.beta_list_laws.specs.ReductionLists.{reductions_of}
use Rattle.beta_list_laws.proofs.Ends.{goes_cells, goes_rows, reduces_by_remainders}
use Rattle.product_laws.specs.FactorSteps.{quantized, PowerTerms}
use Rattle.product_laws.proofs.QuantumSteps.{power_true, power_self, quantum_step_made}
use Rattle.linear_combinations.proofs.Labels.{same_power as same_power_label}
use Rattle.sparse_polys.proofs.Accumulating.{at_same}
use Rattle.linear_combinations.specs.Entries.{IsCombination}
use Rattle.linear_combinations.specs.Gains.{over, mass, scaled, replaced, HaveLabels, Gains}
use Rattle.reduction_laws.specs.Collected.{IsSign}
use Rattle.reduction_laws.specs.ReducedLists.{at_power, reduced_power}
use Rattle.reduction_laws.specs.Reductions.{multiplied}
use Rattle.reduction_laws.proofs.SignLaws.{sign_in, core_is, sign_light}
use Rattle.reduction_laws.proofs.StepLaws.{collected_table, same_by, sums_gained}

pub rule_bounds : (k n : ℕ) → (1 ≤ k) × (k ≤ 64) × (k < n) × (n ≤ 512) → (1 ≤ k) × (k ≤ 64)
rule_bounds k n r = (r.0, r.1)

pub start_power : (first : List ℕ) → (first ≡ first) × (0 + size first ≡ size first)
start_power first = (refl, omega arith)

pub power_within : (label : ℕ × List ℕ) → size label.1 ≤ label.0 + size label.1
power_within label = omega arith

pub power_light : (k n : ℕ) (label : ℕ × List ℕ) (μ : List ℕ) → mass (reduced_power k n label μ) ≤ 1
power_light k n label μ = by (reduction_by_remainders k n μ) (core_is k n μ)
  where
    by : (r : Reduction) → IsSign (sign_in (pos 1) r) → mass (at_power label r) ≤ 1
    by None s = omega arith
    by (Some r) s = let l = sign_light r.1 s in omega arith

-- ---- the power of q and the size of the reduced partition add up to at most the size of the partition that is reduced

power_cells : (k n cells : ℕ) (end : List ℕ) (power : ℕ) → 1 ≤ n → cells ≡ size end + power * n
    → power + size end ≤ cells
power_cells k n cells end power h e = let p : power * 1 ≤ power * n = mul-le-mul_left power h in
    omega arith

pub power_room : (k n : ℕ) (label : ℕ × List ℕ) (μ : List ℕ)
    → (1 ≤ k) × (k ≤ 64) × (k < n) × (n ≤ 512) → IsPartition μ → rows μ ≤ k
    → HaveLabels (λ (m : ℕ × List ℕ). (rows m.1 ≤ k)
    × ((m.0 + size m.1) + size label.1 ≤ (label.0 + size label.1) + size μ))
    (reduced_power k n label μ)
power_room k n label μ rule p few =
    by (reduction_by_remainders k n μ) (reduces_by_remainders k n μ some p few)
  where
    some : 1 ≤ n
    some = let a = rule.0 in let b = rule.2 in omega arith

    by : (r : Reduction) → ReducesTo k n μ r
        → HaveLabels (λ (m : ℕ × List ℕ). (rows m.1 ≤ k)
        × ((m.0 + size m.1) + size label.1 ≤ (label.0 + size label.1) + size μ))
        (at_power label r)
    by None g t m = absurd m
    by (Some r) g t (inl e) =
        let c = power_cells k n (size μ) r.0 r.2 some (goes_cells k n μ r.0 r.1 r.2 g.0) in
        subst (λ (u : (ℕ × List ℕ) × ℤ). (rows u.0.1 ≤ k)
        × ((u.0.0 + size u.0.1) + size label.1 ≤ (label.0 + size label.1) + size μ)) (sym e)
        (goes_rows k n μ r.0 r.1 r.2 g.0, omega arith)
    by (Some r) g t (inr m) = absurd m

-- ---- a step of a quantum product: one more factor, and the reduction of the product

products_raised : (k n : ℕ) (c : ℤ) (label : ℕ × List ℕ) (xs : WholeTerms)
    → scaled c (replaced (reduced_power k n label) xs)
    ≡ with_power label.0 c (reduced_terms xs (reductions_of k n xs))
products_raised k n c label [] = refl
products_raised k n c label (t ∷ xs) =
    by (reduction_by_remainders k n t.0) (products_raised k n c label xs)
  where
    by : (r : Reduction) → scaled c (replaced (reduced_power k n label) xs)
        ≡ with_power label.0 c (reduced_terms xs (reductions_of k n xs))
        → scaled c (scaled t.1 (at_power label r) ++ replaced (reduced_power k n label) xs)
        ≡ with_power label.0 c (reduced_terms (t ∷ xs) (r ∷ reductions_of k n xs))
    by None e = e
    by (Some r) e = ap (λ (l : PowerTerms). ((label.0 + r.2, r.0), c *ℤ (t.1 *ℤ r.1)) ∷ l) e

multiplied_quantized : (k n : ℕ) (factor : List ℕ) (terms : PowerTerms)
    → multiplied k shape_of (reduced_power k n) factor terms ≡ quantized k n factor terms
multiplied_quantized k n factor [] = refl
multiplied_quantized k n factor (t ∷ terms) =
    ap₂ (λ (x y : PowerTerms). x ++ y)
    (products_raised k n t.1 t.0 (classical_product k (t.0.1 ∷ factor ∷ [])))
    (multiplied_quantized k n factor terms)

pub power_equal_self : (a : ℕ × List ℕ) → (nat_eq a.0 a.0 && pointwise nat_eq a.1 a.1) ≡ true
power_equal_self a = and_from _ _ (eq-eqb a.0 a.0 refl) (at_same a.1)

pub power_made : (k n : ℕ) (factor : List ℕ) (terms next : PowerTerms)
    → (1 ≤ k) × (k ≤ 64) × (k < n) × (n ≤ 512)
    → IsCombination (λ a b. nat_eq a.0 b.0 && pointwise nat_eq a.1 b.1) is_power_label whole next
    → Gains [] (multiplied k shape_of (reduced_power k n) factor terms) next
    → IsQuantumStep k n factor terms next
power_made k n factor terms next rule is gains =
    quantum_step_made k n factor terms next (let a = rule.0 in let b = rule.2 in omega arith)
    (collected_table (λ a b. nat_eq a.0 b.0 && pointwise nat_eq a.1 b.1) same_power same_power_label
    power_equal_self power_true power_self is_power_label next is)
    (same_by same_power next (quantized k n factor terms)
    (λ φ. sums_gained (multiplied k shape_of (reduced_power k n) factor terms) next gains φ
    ∙ ap (λ l. over φ l) (multiplied_quantized k n factor terms)))

-- let `next` be a result of a step of a quantum product from `terms` with `factor`, and let each label of `other` occur once, with a coefficient
-- other than 0 (`IsCombination`). If, for every φ, the sum of c·φ(label) over the terms (label, c) of `other` is equal to the same sum for `next`,
-- then `other` is also a result of this step
pub power_other : (k n : ℕ) (factor : List ℕ) (terms next other : PowerTerms)
    → IsCombination (λ a b. nat_eq a.0 b.0 && pointwise nat_eq a.1 b.1) is_power_label whole other
    → ((φ : ℕ × List ℕ → ℤ) → over φ other ≡ over φ next) → IsQuantumStep k n factor terms next
    → IsQuantumStep k n factor terms other
power_other k n factor terms next other is e s = record {
  reductions = s.reductions;
  reduce = s.reduce;
  collected =
      collected_table (λ a b. nat_eq a.0 b.0 && pointwise nat_eq a.1 b.1) same_power
      same_power_label power_equal_self power_true power_self is_power_label other is;
  sums = λ label. same_by same_power other next e label ∙ s.sums label;
}
