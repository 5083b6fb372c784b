-- Let D be a common denominator of the coefficients of a list of terms c·m_λ, and let |c|·D·Π λ_i! ≤ N·|λ|! for each term (`IsBounded` of
-- specs/ListWeight). Then the polynomial of the list, multiplied by D, is bounded in every number of variables (`IsBounded` of monomial_laws): in
-- absolute value its coefficients are at most those of a sum of powers of x_1 + .. + x_n.
use Rattle.std.proofs.Common.{◌≡◌, ◌⊎◌, ℕ, zero, suc, ◌+◌, ◌*◌, ◌/◌, ◌<◌, ◌≤◌, cond, List, [], ◌∷◌, length, sym, ◌∙◌, ap, subst, refl, inl, inr, arith, ℤ, pos, negsuc, ◌+ℤ◌, ◌*ℤ◌}
use Rattle.std.specs.Prelude.{nat_abs, ◌≤ℤ◌}
use Rattle.std.proofs.lemmas.Int.{ints, unsigned_abs-mul}
use Rattle.std.proofs.lemmas.Bool.{cases_eq, eq-eqb}
use Rattle.sym_model.specs.Sum.{total, Among, Once}
use Rattle.sym_model.specs.Polynomial.{Poly, coefficient, scale}
use Rattle.sym_model.specs.Partition.{size, sorted_parts}
use Rattle.sym_model.specs.Bases.{down_from}
use Rattle.sym_model.specs.Expansion.{Fraction, Terms}
use Rattle.sym_model.specs.ListWeight as listed
use Rattle.sym_model.specs.Weight.{factorial}
use Rattle.sym_model.proofs.Polynomials.{coefficient_scale, coefficient_outside}
use Rattle.sym_model.proofs.SortedParts.{size-sorted_parts}
use Rattle.monomial_laws.specs.Majorant.{IsMajorant, IsBounded, power, powers}
use Rattle.monomial_laws.specs.ExpressionTerms.{in_monomials, over}
use Rattle.monomial_laws.proofs.PowerSumCoefficients.{coefficient-monomial_terms}
use Rattle.monomial_laws.proofs.Splits.{In-monomial_terms}
use Rattle.monomial_laws.proofs.Powers.{factorials-positive, power-nonnegative, coefficient_power, coefficient-powers, factorials-sorted}
use Rattle.monomial_laws.proofs.Majorants.{bounded-scale, bounded-weaken, bounded-majorant}
use Rattle.monomial_laws.proofs.DividedTerms.{labels_of, over-there, over-missing, among_or_not}
use Rattle.std.proofs.Math.Nat.{le_of_mul-le-mul_right}
use Rattle.sym_model.specs.ListWeight.{factorials}
use Rattle.sym_model.proofs.Sums.{among_down_from, total_not_negative, down_from-below}
use native.Mathlib.Nat.{mul-le-mul_left}

member_within : {A : Type 0} (f : A → ℤ) (x : A) (xs : List A) → ((y : A) → pos 0 ≤ℤ f y) → Among x xs → f x ≤ℤ total f xs
member_within f x [] h m = absurd m
member_within f x (y ∷ xs) h (inl e) = let n = total_not_negative f xs h in subst (λ z. f z ≤ℤ (f y +ℤ total f xs)) (sym e) (omega (arith, ints))
member_within f x (y ∷ xs) h (inr m) = let r = member_within f x xs h m in let p = h y in omega (arith, ints)

length-down_from : (a : ℕ) → length (down_from a) ≡ a + 1
length-down_from zero = omega arith
length-down_from (suc a) = omega (arith, length-down_from a)

powers-nonnegative : (ds : List ℕ) (n : ℕ) (α : List ℕ) → pos 0 ≤ℤ coefficient (powers ds n) α
powers-nonnegative ds n α = subst (λ z. pos 0 ≤ℤ z) (sym (coefficient-powers ds n α)) (total_not_negative (λ (d : ℕ). coefficient (power d n) α) ds (λ d. power-nonnegative d n α))

within-power : (z P S : ℤ) (F N s : ℕ) → nat_abs z * F ≤ N * s → P *ℤ pos F ≡ pos s → 0 < F → pos 0 ≤ℤ P → P ≤ℤ S → pos (nat_abs z) ≤ℤ (pos N *ℤ S)
within-power z (pos p) (pos t) F N s h e k o l =
    let f : p * F ≡ s = omega (arith, ints) in
    let g : N * (p * F) ≡ N * s = ap (λ x. N * x) f in
    let c : nat_abs z ≤ N * p = le_of_mul-le-mul_right (let r : nat_abs z * F ≤ N * p * F = omega arith in r) k in
    let m = mul-le-mul_left N (let r : p ≤ t = omega (arith, ints) in r) in
    (let r : nat_abs z ≤ N * t = omega arith in omega (arith, ints))
within-power z (negsuc p) S F N s h e k o l = absurd (omega (arith, ints))
within-power z (pos p) (negsuc t) F N s h e k o l = absurd (omega (arith, ints))

majorant-list : (N D a n : ℕ) (terms : Terms (List ℕ)) → Once (labels_of terms) → ((t : List ℕ × Fraction) → Among t terms → size t.0 ≤ a) → listed.IsBounded N D terms → IsMajorant (scale (pos N) (powers (down_from a) n)) (in_monomials (over D terms) n)
majorant-list N D a n terms is w b α = by (cases_eq (length α) n)
  where
    W : Poly
    W = over D terms

    nothing : (z S : ℤ) (N : ℕ) → z ≡ pos 0 → pos 0 ≤ℤ S → pos (nat_abs z) ≤ℤ (pos N *ℤ S)
    nothing z (pos s) N e h = let f = ap nat_abs e in omega (arith, ints)
    nothing z (negsuc s) N e h = absurd (omega (arith, ints))

    within : ((t : List ℕ × Fraction) × Among t terms × (t.0 ≡ sorted_parts α)) ⊎ (Among (sorted_parts α) (labels_of terms) → ⊥) → length α ≡ n
        → pos (nat_abs (coefficient (over D terms) (sorted_parts α))) ≤ℤ (pos N *ℤ coefficient (powers (down_from a) n) α)
    within (inr none) l = nothing (coefficient (over D terms) (sorted_parts α)) (coefficient (powers (down_from a) n) α) N (over-missing D terms (sorted_parts α) none) (powers-nonnegative (down_from a) n α)
    within (inl (t, m, e)) l =
        let c : coefficient (over D terms) (sorted_parts α) ≡ t.1.0 *ℤ pos (D / t.1.1) = ap (coefficient (over D terms)) (sym e) ∙ over-there D terms is t m in
        let s : size t.0 ≡ size α = ap size e ∙ size-sorted_parts α in
        let f : factorials t.0 ≡ factorials α = ap factorials e ∙ factorials-sorted α in
        let low = w t m in
        let h : nat_abs (coefficient (over D terms) (sorted_parts α)) * factorials α ≤ N * factorial (size α) =
        subst (λ z. nat_abs z * factorials α ≤ N * factorial (size α)) (sym c)
        (subst (λ k. k * factorials α ≤ N * factorial (size α)) (sym (unsigned_abs-mul t.1.0 (pos (D / t.1.1))))
        (subst (λ k. nat_abs t.1.0 * (D / t.1.1) * k ≤ N * factorial (size α)) f
        (subst (λ k. nat_abs t.1.0 * (D / t.1.1) * factorials t.0 ≤ N * factorial k) s (b t m).1))) in
        within-power (coefficient (over D terms) (sorted_parts α)) (coefficient (power (size α) n) α) (coefficient (powers (down_from a) n) α) (factorials α) N (factorial (size α)) h
        (coefficient_power (size α) n α l ∙ ap (λ t. cond t (pos (factorial (size α))) (pos 0)) (eq-eqb (size α) (size α) refl))
        (factorials-positive α)
        (power-nonnegative (size α) n α)
        (subst (λ z. coefficient (power (size α) n) α ≤ℤ z) (sym (coefficient-powers (down_from a) n α))
        (member_within (λ (d : ℕ). coefficient (power d n) α) (size α) (down_from a) (λ d. power-nonnegative d n α) (among_down_from (size α) a (omega arith))))

    by : (length α ≡ n) ⊎ (length α ≡ n → ⊥) → pos (nat_abs (coefficient (in_monomials (over D terms) n) α)) ≤ℤ coefficient (scale (pos N) (powers (down_from a) n)) α
    by (inl l) =
        rw (coefficient_scale (pos N) (powers (down_from a) n) α, coefficient-monomial_terms (over D terms) n α l) (within (among_or_not (sorted_parts α) terms) l)
    by (inr o) =
        rw (coefficient_scale (pos N) (powers (down_from a) n) α)
        (nothing (coefficient (in_monomials (over D terms) n) α) (coefficient (powers (down_from a) n) α) N (coefficient_outside n (in_monomials (over D terms) n) α (In-monomial_terms (over D terms) n) o) (powers-nonnegative (down_from a) n α))

pub bounded-list : (N D a n : ℕ) (terms : Terms (List ℕ)) → Once (labels_of terms) → ((t : List ℕ × Fraction) → Among t terms → size t.0 ≤ a) → listed.IsBounded N D terms → IsBounded (N * (a + 1)) a n (in_monomials (over D terms) n)
bounded-list N D a n terms is w b =
    bounded-majorant (N * (a + 1)) a n (scale (pos N) (powers (down_from a) n)) (in_monomials (over D terms) n) (majorant-list N D a n terms is w b)
    (bounded-weaken ((a + 1) * N) (N * (a + 1)) a a n (scale (pos N) (powers (down_from a) n)) (omega arith) (omega arith)
    (bounded-scale (a + 1) a N n (powers (down_from a) n)
    (record {
      exponents = down_from a;
      few = omega (arith, length-down_from a);
      low = λ k m. down_from-below a k m;
      majorant = λ α. itself (coefficient (powers (down_from a) n) α) (powers-nonnegative (down_from a) n α);
    })))
  where
    itself : (x : ℤ) → pos 0 ≤ℤ x → pos (nat_abs x) ≤ℤ x
    itself x h = omega (arith, ints)
