-- Bounds for the sums of the absolute values of coefficients when a list in m is straightened, for each partition of the result separately. N bounds
-- a list (`IsBoundedBy`) if |c|·Π λ_i! ≤ N·|λ|! for each term c·m_λ.
--     list-within          if N bounds a list, the bound for the terms to which the list straightens
--     large-straight       if a sum overflows, N times the growth into s, which is n^n for labels of at most n cells, is 2^127 or more
use Rattle.std.proofs.lemmas.Grind.{common_steps}
use Rattle.std.proofs.Common.{◌≡◌, ◌⊎◌, ℕ, zero, suc, ◌+◌, ◌-◌, ◌*◌, ◌^◌, ◌<◌, ◌≤◌, false, cond, eqb, List, [], ◌∷◌, length, refl, sym, ap, ◌∙◌, subst, inl, inr, arith, pow-suc, ℤ, pos, ◌*ℤ◌, flat_map, rules}
use Rattle.std.specs.Prelude.{◌≤ℤ◌, nat_abs}
use Rattle.std.proofs.lemmas.Int.{ints, unsigned_abs-mul}
use Rattle.std.proofs.lemmas.Bool.{cases_eq, cases_lt, eq-eqb, ne_eqb}
use Rattle.std.proofs.Math.Nat.{pow-zero, one-mul}
use Rattle.sym_model.specs.Sum.{total}
use Rattle.sym_model.specs.Partition.{size}
use Rattle.sym_model.specs.Alternant.{staircase}
use Rattle.sym_model.specs.Arrangement.{arrangements}
use Rattle.sym_model.specs.BetaList.{has_equal_entries, sorted_falling, from_beta}
use Rattle.sym_model.specs.Straightening.{shifted}
use Rattle.sym_model.specs.PlaceOrders.{minus_one_to}
use Rattle.sym_model.specs.Expansion.{Basis}
use Rattle.sym_model.specs.ListWeight.{factorials}
use Rattle.sym_model.specs.Weight.{factorial, growth}
use Rattle.sym_model.proofs.Sums.{total_ext, total_map, total_each, total_scale, total_zero}
use Rattle.sym_model.proofs.Exponents.{size-join, length-join_same}
use Rattle.beta_list_laws.proofs.NeighbourExchanges.{size-sorted, length-sorted}
use Rattle.beta_list_laws.proofs.SortedLists.{sorted_strict}
use Rattle.beta_list_laws.proofs.BetaLists.{size-from_beta}
use Rattle.sparse_polys.specs.Tables.{equal, IsWholeTable}
use Rattle.sparse_polys.specs.LabelSizes.{AreWithin}
use Rattle.sparse_polys.proofs.WholeLists.{Once-labels}
use Rattle.sym_model.specs.WholeTerms.{WholeTerms, labels}
use Rattle.linear_combinations.specs.Gains.{mass_at, Overflows}
use Rattle.linear_combinations.proofs.Gains.{over_only_within}
use Rattle.basis_change.specs.Arranging.{straight_term, straight_terms}
use Rattle.basis_change.specs.Clearing.{IsBoundedBy}
use Rattle.basis_change.specs.Straightening.{straightened_list}
use Rattle.basis_change.proofs.StraightTerms.{straight_term-some}
use Rattle.basis_change.proofs.LastPlaces.{IsArrangement, arrangement}
use Rattle.basis_change.proofs.MultinomialSums.{total-mono, multinomial, arranged, multinomials-within, arranged-within}
use Rattle.sym_model.proofs.Sums.{total_among}
use Rattle.sym_model.proofs.Parts.{length-staircase}
use native.Mathlib.Nat.{mul-le-mul_left}
use lib.IntN.{*ℤ-zero, zero-*ℤ}
use Rattle.sym_model.proofs.Integers.{sign_size}

pub sign-size : (k : ℕ) (z : ℤ) → nat_abs (minus_one_to k *ℤ z) ≡ nat_abs z
sign-size k z = unsigned_abs-mul (minus_one_to k) z ∙ ap (λ n. n * nat_abs z) (sign_size k) ∙ one-mul (nat_abs z)

straight-size : (α : List ℕ) → has_equal_entries (shifted α) ≡ false → size (from_beta (sorted_falling (shifted α))) ≡ size α
straight-size α h =
    let strict = sorted_strict (shifted α) h in
    let a = size-from_beta (sorted_falling (shifted α)) strict in
    let b = size-sorted (shifted α) in
    let c = size-join α (staircase (length α)) in
    let l : length (sorted_falling (shifted α)) ≡ length α = length-sorted (shifted α) ∙ length-join_same (length α) α (staircase (length α)) refl (length-staircase (length α)) in
    let s = ap (λ k. size (staircase k)) l in
    omega arith

one-within : (ν : List ℕ) (z : ℤ) (parts : List ℕ) (n : ℕ) (α : List ℕ) → IsArrangement parts n α
    → pos (mass_at equal ν (straight_term z (shifted α))) ≤ℤ cond (eqb (size parts) (size ν)) (pos (nat_abs z)) (pos 0)
one-within ν z parts n α a = search (rules, ints, straight-size, eq-eqb, sign-size, straight_term-some)

mass-total : (ν : List ℕ) (es : WholeTerms) → pos (mass_at equal ν es) ≡ total (λ (t : List ℕ × ℤ). pos (cond (equal ν t.0) (nat_abs t.1) 0)) es
mass-total ν [] = refl
mass-total ν (e ∷ es) = let r = mass-total ν es in omega (arith, ints)

mass-each : {A : Type 0} (ν : List ℕ) (h : A → WholeTerms) (xs : List A) → pos (mass_at equal ν (flat_map h xs)) ≡ total (λ (x : A). pos (mass_at equal ν (h x))) xs
mass-each {A} ν h xs = search (rules, mass-total, total_each, total_ext)

label-within : (N n : ℕ) (ν : List ℕ) (z : ℤ) (parts : List ℕ) → nat_abs z * factorials parts ≤ N * factorial (size parts)
    → pos (mass_at equal ν (straight_terms z parts n)) ≤ℤ (pos N *ℤ arranged (size ν) n parts)
label-within N n ν z parts h =
    let e = mass-each ν (λ (α : List ℕ). straight_term z (shifted α)) (arrangements parts n) in
    let m = total-mono (λ (α : List ℕ). pos (mass_at equal ν (straight_term z (shifted α)))) (λ (α : List ℕ). cond (eqb (size parts) (size ν)) (pos (nat_abs z)) (pos 0)) (arrangements parts n)
    (λ α i. one-within ν z parts n α (arrangement parts n α i)) in
    let b = by (cases_eq (size parts) (size ν)) in
    omega (arith, ints)
  where
    by : (size parts ≡ size ν) ⊎ (size parts ≡ size ν → ⊥) → total (λ (α : List ℕ). cond (eqb (size parts) (size ν)) (pos (nat_abs z)) (pos 0)) (arrangements parts n) ≤ℤ (pos N *ℤ arranged (size ν) n parts)
    by (inl e) =
        subst (λ b. total (λ (α : List ℕ). cond b (pos (nat_abs z)) (pos 0)) (arrangements parts n) ≤ℤ (pos N *ℤ cond b (total (multinomial (size ν) n) (arrangements parts n)) (pos 0))) (sym (eq-eqb (size parts) (size ν) e))
        (subst (λ s. total (λ (α : List ℕ). pos (nat_abs z)) (arrangements parts n) ≤ℤ (pos N *ℤ total (multinomial s n) (arrangements parts n))) e (arranged-within (nat_abs z) N n parts h))
    by (inr d) =
        subst (λ b. total (λ (α : List ℕ). cond b (pos (nat_abs z)) (pos 0)) (arrangements parts n) ≤ℤ (pos N *ℤ cond b (total (multinomial (size ν) n) (arrangements parts n)) (pos 0))) (sym (ne_eqb (size parts) (size ν) d))
        (let y = total_zero {A = List ℕ} (arrangements parts n) in let x = *ℤ-zero (pos N) in omega (arith, ints))

-- ---- the bound for a list of terms, at one partition ν

abbrev sum_of : ℕ → ℕ → WholeTerms → ℤ
sum_of s n terms = total (λ (t : List ℕ × ℤ). arranged s n t.0) terms

terms-within : (N n : ℕ) (ν : List ℕ) (terms : WholeTerms) → IsBoundedBy N terms → pos (mass_at equal ν (straightened_list n terms)) ≤ℤ (pos N *ℤ sum_of (size ν) n terms)
terms-within N n ν terms b =
    let e = mass-each ν (λ (t : List ℕ × ℤ). straight_terms t.1 t.0 n) terms in
    let m = total-mono (λ (t : List ℕ × ℤ). pos (mass_at equal ν (straight_terms t.1 t.0 n))) (λ (t : List ℕ × ℤ). pos N *ℤ arranged (size ν) n t.0) terms
    (λ t i. label-within N n ν t.1 t.0 (b t i)) in
    let s = total_scale (pos N) (λ (t : List ℕ × ℤ). arranged (size ν) n t.0) terms in
    omega (arith, ints)

power-more : (n s j : ℕ) → 0 < n → n ^ s ≤ n ^ (j + s)
power-more n s zero p = let e : 0 + s ≡ s = omega arith in subst (λ k. n ^ s ≤ n ^ k) (sym e) (omega arith)
power-more n s (suc j) p =
    let e : suc j + s ≡ suc (j + s) = omega arith in
    let r = power-more n s j p in
    let m : n ^ (j + s) * 1 ≤ n ^ (j + s) * n = mul-le-mul_left (n ^ (j + s)) p in
    let x = pow-suc n (j + s) in
    subst (λ k. n ^ s ≤ n ^ k) (sym e) (omega arith)

power-within : (n s : ℕ) → s ≤ n → n ^ s ≤ growth Basis.schurs n
power-within zero s h = let e : s ≡ 0 = omega arith in subst (λ k. 0 ^ k ≤ 1) (sym e) (omega (arith, pow-zero 0))
power-within (suc d) s h = let e : (suc d - s) + s ≡ suc d = omega arith in subst (λ k. suc d ^ s ≤ suc d ^ k) e (power-more (suc d) s (suc d - s) (omega arith))

scaled-le : (N : ℕ) (x : ℤ) (k : ℕ) → x ≤ℤ pos k → (pos N *ℤ x) ≤ℤ pos (N * k)
scaled-le zero x k h = let e = zero-*ℤ x in omega (arith, ints)
scaled-le (suc N) x k h = grind (arith, common_steps)

pub list-within : (N n : ℕ) (terms : WholeTerms) → IsWholeTable terms → AreWithin n terms → IsBoundedBy N terms → (ν : List ℕ) → mass_at equal ν (straightened_list n terms) ≤ N * growth Basis.schurs n
list-within N n terms is w b ν = by (cases_lt n (size ν))
  where
    by : (n < size ν) ⊎ (size ν ≤ n) → mass_at equal ν (straightened_list n terms) ≤ N * growth Basis.schurs n
    by (inl l) =
        let t = terms-within N n ν terms b in
        let z : sum_of (size ν) n terms ≡ pos 0 =
        total_among (λ (t : List ℕ × ℤ). arranged (size ν) n t.0) (λ (t : List ℕ × ℤ). pos 0) terms
        (λ t m. let s = w t m in ap (λ b. cond b (total (multinomial (size ν) n) (arrangements t.0 n)) (pos 0)) (ne_eqb (size t.0) (size ν) (λ e. omega arith)))
        ∙ total_zero {A = List ℕ × ℤ} terms in
        let x = ap (λ y. pos N *ℤ y) z ∙ *ℤ-zero (pos N) in
        omega (arith, ints)
    by (inr l) =
        let t = terms-within N n ν terms b in
        let m = multinomials-within (size ν) n (labels terms) (Once-labels terms is) in
        let e = total_map (arranged (size ν) n) (λ (t : List ℕ × ℤ). t.0) terms in
        let p = power-within n (size ν) l in
        let u : N * n ^ size ν ≤ N * growth Basis.schurs n = mul-le-mul_left N p in
        let v : sum_of (size ν) n terms ≤ℤ pos (n ^ size ν) = omega (arith, ints) in
        let y = scaled-le N (sum_of (size ν) n terms) (n ^ size ν) v in
        omega (arith, ints)

-- if N bounds a list in the monomial basis m (`IsBoundedBy`) and its labels have at most n cells, and adding up the terms to which it straightens
-- overflows, then N times the growth into s at n is 2^127 or more
pub large-straight : (N n : ℕ) (terms : WholeTerms) → IsWholeTable terms → AreWithin n terms → IsBoundedBy N terms → Overflows equal [] (straightened_list n terms) → 2 ^ 127 ≤ N * growth Basis.schurs n
large-straight N n terms is w b (ν, h) = let l = list-within N n terms is w b ν in let o = over_only_within equal ν [] in omega arith
