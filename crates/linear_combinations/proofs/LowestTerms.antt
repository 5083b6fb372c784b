-- Coefficients that are fractions in lowest terms.
use Rattle.std.proofs.Common.{◌≡◌, ◌≢◌, ℕ, zero, suc, ◌<◌, ◌*◌, true, ℤ, pos, negsuc, ◌*ℤ◌, nat_abs, unsigned_abs, neg_ℤ, refl, sym, ap, ◌∙◌, subst, zero-mul, arith}
use Rattle.std.specs.Int.{IsGcd}
use Rattle.sym_model.specs.Expansion.{Fraction}
use Rattle.sym_model.specs.Canonical.{is_reduced}
use Rattle.sym_model.proofs.Orders.{is_reduced-from, is_reduced-tells}
use Rattle.fraction_laws.specs.Fractions.{whole, InLowestTerms, fraction_product}
use Rattle.fraction_laws.proofs.Fractions.{Stands-same, Stands-itself, Stands-whole, Stands-product}
use Rattle.fraction_laws.proofs.FractionLaws.{num-zero}

pub nat_abs-is : (z : ℤ) → nat_abs z ≡ unsigned_abs z
nat_abs-is (pos n) = refl
nat_abs-is (negsuc n) = refl

nat_abs-positive : (z : ℤ) → z ≢ pos 0 → 0 < nat_abs z
nat_abs-positive (pos zero) other = absurd (other refl)
nat_abs-positive (pos (suc n)) other = omega arith
nat_abs-positive (negsuc n) other = omega arith

pub is_reduced-lowest : (r : Fraction) → InLowestTerms r → r ≢ whole (pos 0) → is_reduced r ≡ true
is_reduced-lowest r lowest other =
    is_reduced-from r (record {
      denominator = lowest.positive;
      nonzero = nat_abs-positive r.0 (λ e. other (num-zero r lowest e));
      lowest = subst (λ n. IsGcd n r.1 1) (sym (nat_abs-is r.0)) lowest.coprime;
    })

pub lowest-is_reduced : (c : Fraction) → is_reduced c ≡ true → InLowestTerms c
lowest-is_reduced c h =
    let t = is_reduced-tells c h in
    record { positive = t.denominator; coprime = subst (λ n. IsGcd n c.1 1) (nat_abs-is c.0) t.lowest }

not_zero : (c : Fraction) → 0 < nat_abs c.0 → c ≡ whole (pos 0) → ⊥
not_zero c h e = let none : nat_abs c.0 ≡ 0 = ap (λ (r : Fraction). nat_abs r.0) e in omega arith

pub not_zero-is_reduced : (c : Fraction) → is_reduced c ≡ true → c ≢ whole (pos 0)
not_zero-is_reduced c h = not_zero c (is_reduced-tells c h).nonzero

*ℤ-zero_left : (n : ℤ) → pos 0 *ℤ n ≡ pos 0
*ℤ-zero_left (pos n) = ap pos (zero-mul n)
*ℤ-zero_left (negsuc n) = ap (λ m. neg_ℤ (pos m)) (zero-mul (suc n))

zero_cross : (n : ℤ) (d : ℕ) → (pos 0 *ℤ n) *ℤ pos 1 ≡ pos 0 *ℤ pos (1 * d)
zero_cross n d =
    let left : (pos 0 *ℤ n) *ℤ pos 1 ≡ pos 0 = ap (λ z. z *ℤ pos 1) (*ℤ-zero_left n) in
    let none : 0 * (1 * d) ≡ 0 = omega arith in
    left ∙ sym (ap pos none)

pub product-zero : (r : Fraction) → InLowestTerms r → fraction_product (whole (pos 0)) r ≡ whole (pos 0)
product-zero r lowest =
    Stands-same _ _ _ _ _ _ (Stands-product (whole (pos 0)) r _ _ _ _ (Stands-whole (pos 0)) (Stands-itself r lowest)) (Stands-whole (pos 0)) (zero_cross r.0 r.1)
