-- The partitions that label the terms of a list are reduced by rim hooks, or reflected into the alcove: the coefficients of the resulting list of
-- terms depend only on the coefficients of the given list.
--     reduced_sum         the labels are reduced by rim hooks: the coefficient of a label in the resulting list
--     reflected_sum       the labels are reflected into the alcove: the coefficient of a label in the resulting list
--     absolute_within     let no label occur twice in a list: the sum of the absolute values of its coefficients is at most that of any list with
--                         the same coefficients
use Rattle.std.proofs.Common.{◌≡◌, ℕ, ◌≤◌, cond, List, [], ◌∷◌, refl, sym, ◌∙◌, ap, ap₂, subst, inl, inr, arith, ℤ, pos, negsuc, ◌+ℤ◌, ◌*ℤ◌, ◌≤ℤ◌, Option, Some, None, rules}
use Rattle.std.specs.Prelude.{nat_abs}
use Rattle.std.proofs.lemmas.Int.{ints}
use Rattle.std.proofs.Math.IntN.{*ℤ-zero, +ℤ_idl, +ℤ_idr}
use Rattle.sym_model.specs.Sum.{total, Among, Once}
use Rattle.sym_model.specs.Polynomial.{Term, same, coefficient, Same}
use Rattle.sym_model.specs.Partition.{IsPartition, rows}
use Rattle.sym_model.specs.WholeTerms.{WholeTerms, coefficient_by, same_power, absolute_total, HaveLabels, labels}
use Rattle.sym_model.specs.AlcoveReduction.{alcove_reduction}
use Rattle.sym_model.specs.Reductions.{Reduction, AreReductions, reduced_terms, reflected_term, reflected_terms}
use Rattle.sym_model.proofs.Sums.{total_ext, total_among, total_each}
use Rattle.sym_model.proofs.Exponents.{same_refl, same_apart}
use Rattle.sym_model.proofs.Polynomials.{pair_determined}
use Rattle.beta_list_laws.specs.LowestList.{reduction_by_remainders}
use Rattle.beta_list_laws.specs.ReductionLists.{reductions_of}
use Rattle.beta_list_laws.proofs.Ends.{reduces_by_remainders}
use Rattle.sym_model.proofs.Integers.{sign_of, times_chosen}

-- ---- the coefficients of a list of terms that is reduced by rim hooks

-- `reduced_value (power, ν) r`: the sign of the reduction r if r leads to the partition ν with this power of q; otherwise 0
abbrev pub reduced_value : ℕ × List ℕ → Reduction → ℤ
reduced_value label None = pos 0
reduced_value label (Some r) = cond (same_power (r.2, r.0) label) r.1 (pos 0)

abbrev pub reduced_share : ℕ → ℕ → ℕ × List ℕ → List ℕ → ℤ
reduced_share k n label shape = reduced_value label (reduction_by_remainders k n shape)

pub are_reductions : (k n : ℕ) (terms : WholeTerms) → 1 ≤ n → HaveLabels (λ shape. IsPartition shape × (rows shape ≤ k)) terms → AreReductions k n terms (reductions_of k n terms)
are_reductions k n [] h e = tt
are_reductions k n (t ∷ terms) h e =
    let p = e t (inl refl) in (reduces_by_remainders k n t.0 h p.0 p.1, are_reductions k n terms h (λ u m. e u (inr m)))

pub reduced_sum : (k n : ℕ) (terms : WholeTerms) (label : ℕ × List ℕ)
    → coefficient_by same_power (reduced_terms terms (reductions_of k n terms)) label ≡ total (λ (t : Term). t.1 *ℤ reduced_share k n label t.0) terms
reduced_sum k n [] label = refl
reduced_sum k n (t ∷ terms) label = by (reduction_by_remainders k n t.0) (reduced_sum k n terms label)
  where
    by : (r : Reduction) → coefficient_by same_power (reduced_terms terms (reductions_of k n terms)) label ≡ total (λ (t : Term). t.1 *ℤ reduced_share k n label t.0) terms
        → coefficient_by same_power (reduced_terms (t ∷ terms) (r ∷ reductions_of k n terms)) label ≡ t.1 *ℤ reduced_value label r +ℤ total (λ (t : Term). t.1 *ℤ reduced_share k n label t.0) terms
    by None e = e ∙ sym (+ℤ_idl (total (λ (t : Term). t.1 *ℤ reduced_share k n label t.0) terms)) ∙ ap (λ z. z +ℤ total (λ (t : Term). t.1 *ℤ reduced_share k n label t.0) terms) (sym (*ℤ-zero t.1))
    by (Some r) e = ap₂ ◌+ℤ◌ (times_chosen (same_power (r.2, r.0) label) t.1 r.1) e

-- ---- the coefficients of a list of terms that is reflected into the alcove

abbrev pub alcove_value : List ℕ → Option (List ℕ × ℤ) → ℤ
alcove_value label None = pos 0
alcove_value label (Some a) = cond (same a.0 label) a.1 (pos 0)

abbrev pub alcove_share : ℕ → ℕ → List ℕ → List ℕ → ℤ
alcove_share k n label shape = alcove_value label (alcove_reduction k n shape)

one_reflected : (label : List ℕ) (c : ℤ) (r : Option (List ℕ × ℤ)) → coefficient (reflected_term c r) label ≡ c *ℤ alcove_value label r
one_reflected label c None = sym (*ℤ-zero c)
one_reflected label c (Some a) = +ℤ_idr (cond (same a.0 label) (c *ℤ a.1) (pos 0)) ∙ times_chosen (same a.0 label) c a.1

pub reflected_sum : (k n : ℕ) (terms : WholeTerms) (label : List ℕ) → coefficient (reflected_terms k n terms) label ≡ total (λ (t : Term). t.1 *ℤ alcove_share k n label t.0) terms
reflected_sum k n terms label = search (rules, total_each, total_ext, one_reflected)

-- ---- sums of the absolute values of the coefficients of a list of terms

sgn_itself : (z : ℤ) → z *ℤ sign_of z ≡ pos (nat_abs z)
sgn_itself (pos n) = omega (arith, ints)
sgn_itself (negsuc n) = omega (arith, ints)

sgn_bounds : (z w : ℤ) → (z *ℤ sign_of w) ≤ℤ pos (nat_abs z)
sgn_bounds (pos n) (pos m) = omega (arith, ints)
sgn_bounds (pos n) (negsuc m) = omega (arith, ints)
sgn_bounds (negsuc n) (pos m) = omega (arith, ints)
sgn_bounds (negsuc n) (negsuc m) = omega (arith, ints)

coefficient_absent : (xs : WholeTerms) (label : List ℕ) → (Among label (labels xs) → ⊥) → coefficient xs label ≡ pos 0
coefficient_absent [] label n = refl
coefficient_absent (x ∷ xs) label n = search (rules, same_apart, +ℤ_idl, (coefficient_absent xs label))

label_among : (t : Term) (xs : WholeTerms) → Among t xs → Among t.0 (labels xs)
label_among t (x ∷ xs) (inl e) = inl (ap (λ (u : Term). u.0) e)
label_among t (x ∷ xs) (inr m) = inr (label_among t xs m)
label_among t [] m = absurd m

coefficient_once : (xs : WholeTerms) → Once (labels xs) → (t : Term) → Among t xs → coefficient xs t.0 ≡ t.1
coefficient_once [] o t m = absurd m
coefficient_once (x ∷ xs) o t (inl e) = search (rules, same_refl, coefficient_absent, +ℤ_idr)
coefficient_once (x ∷ xs) o t (inr m) =
    let apart : (x.0 ≡ t.0 → ⊥) = λ e. o.0 (subst (λ l. Among l (labels xs)) (sym e) (label_among t xs m)) in
    ap (λ b. cond b x.1 (pos 0) +ℤ coefficient xs t.0) (same_apart x.0 t.0 apart) ∙ +ℤ_idl (coefficient xs t.0) ∙ coefficient_once xs o.1 t m

sum_of_absolutes : (xs : WholeTerms) → total (λ (t : Term). pos (nat_abs t.1)) xs ≡ pos (absolute_total xs)
sum_of_absolutes [] = refl
sum_of_absolutes (x ∷ xs) = ap (λ z. pos (nat_abs x.1) +ℤ z) (sum_of_absolutes xs)

sum_bounds : (ys : WholeTerms) (w : List ℕ → ℤ) → total (λ (t : Term). t.1 *ℤ sign_of (w t.0)) ys ≤ℤ pos (absolute_total ys)
sum_bounds [] w = omega (arith, ints)
sum_bounds (y ∷ ys) w = let a = sgn_bounds y.1 (w y.0) in let r = sum_bounds ys w in omega (arith, ints)

pub absolute_within : (xs ys : WholeTerms) → Once (labels xs) → Same xs ys → absolute_total xs ≤ absolute_total ys
absolute_within xs ys o e =
    let signs : List ℕ → ℤ = λ label. sign_of (coefficient xs label) in
    let own : total (λ (t : Term). t.1 *ℤ signs t.0) xs ≡ pos (absolute_total xs) =
    total_among (λ (t : Term). t.1 *ℤ signs t.0) (λ (t : Term). pos (nat_abs t.1)) xs (λ t m. ap (λ z. t.1 *ℤ sign_of z) (coefficient_once xs o t m) ∙ sgn_itself t.1)
    ∙ sum_of_absolutes xs in
    let other = pair_determined xs ys signs e in
    let bound = sum_bounds ys (coefficient xs) in
    let le : pos (absolute_total xs) ≤ℤ pos (absolute_total ys) = omega (arith, ints) in
    omega (arith, ints)
