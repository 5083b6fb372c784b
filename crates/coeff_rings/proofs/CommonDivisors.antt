-- Let two fractions have the numerators x and y over their least common denominator D. Then each common divisor of D
-- and x + y, and each common divisor of D and x - y, divides the greatest common divisor of the denominators of the
-- two fractions (Knuth, The Art of Computer Programming, 4.5.1).
use Rattle.std.proofs.Common.{◌≡◌, ℕ, suc, ◌*◌, ◌/◌, ◌<◌, sym, refl, ap, ◌∙◌, subst, arith, ℤ, pos, negsuc, ◌+ℤ◌, ◌-ℤ◌, ◌*ℤ◌, neg_ℤ, unsigned_abs}
use Rattle.std.specs.Int.{IsGcd, ◌∣◌}
use Rattle.std.proofs.lemmas.Int.{ints, unsigned_abs-mul}
use Rattle.std.proofs.lemmas.Nat.Gcd.{IsGcd-swap}
use native.Mathlib.Nat.{dvd_trans, dvd-mul_left, dvd-mul_right, dvd-mul_left_of_dvd, div-mul_cancel, mul_comm}
use Rattle.sym_model.specs.Expansion.{Fraction}
use Rattle.sym_model.proofs.Ring.{ring, negation-product}
use Rattle.fraction_laws.specs.Fractions.{InLowestTerms, greatest_common_divisor}
use Rattle.fraction_laws.specs.Checked.{numerator_over_common, common_denominator}
use Rattle.fraction_laws.proofs.Divisors.{divides_other_factor, coprime_from, coprime_without, divisor_positive, IsGcd-greatest}
use Rattle.fraction_laws.proofs.Fractions.{unsigned_abs-negation}
use Rattle.fraction_laws.proofs.FractionAnswers.{greatest_common_divisor_comm}

-- ---- common divisors of three numbers, of which one is the sum or the difference of the other two

-- z is a multiple of d
record Multiple (z : ℤ) (d : ℕ) : Type 0 where
  times : ℤ
  is : z ≡ times *ℤ pos d

multiple : (z : ℤ) (d : ℕ) → d ∣ unsigned_abs z → Multiple z d
multiple (pos n) d h = record { times = pos (n / d); is = ap pos (sym (div-mul_cancel d h)) }
multiple (negsuc n) d h = record {
  times = neg_ℤ (pos (suc n / d));
  is = sym (negation-product (pos (suc n / d)) (pos d) ∙ ap (λ (m : ℕ). neg_ℤ (pos m)) (div-mul_cancel d h));
}

difference_of_multiples : (k l d : ℤ) → (k *ℤ d) -ℤ (l *ℤ d) ≡ (k -ℤ l) *ℤ d
difference_of_multiples k l d = simp ring (omega (arith, ints))

divides_difference : (d : ℕ) (x y z : ℤ) → z ≡ x -ℤ y → d ∣ unsigned_abs x → d ∣ unsigned_abs y → d ∣ unsigned_abs z
divides_difference d x y z e p q =
    let k = multiple x d p in
    let l = multiple y d q in
    let is : z ≡ (k.times -ℤ l.times) *ℤ pos d =
    e ∙ ap (λ w. w -ℤ y) k.is ∙ ap (λ w. (k.times *ℤ pos d) -ℤ w) l.is ∙ difference_of_multiples k.times l.times (pos d) in
    subst (λ (n : ℕ). d ∣ n) (sym (ap unsigned_abs is ∙ unsigned_abs-mul (k.times -ℤ l.times) (pos d))) (dvd-mul_left d (unsigned_abs (k.times -ℤ l.times)))

divides_sum : (d : ℕ) (x y z : ℤ) → z ≡ x +ℤ y → d ∣ unsigned_abs x → d ∣ unsigned_abs y → d ∣ unsigned_abs z
divides_sum d x y z e p q =
    let is : z ≡ x -ℤ neg_ℤ y = omega (arith, ints) in
    divides_difference d x (neg_ℤ y) z is p (subst (λ (n : ℕ). d ∣ n) (sym (unsigned_abs-negation y)) q)

-- each common divisor of total and left divides right, and each common divisor of total and right divides left
pub record Balances (left right total : ℤ) : Type 0 where
  pub to_right : (d : ℕ) → d ∣ unsigned_abs total → d ∣ unsigned_abs left → d ∣ unsigned_abs right
  pub to_left : (d : ℕ) → d ∣ unsigned_abs total → d ∣ unsigned_abs right → d ∣ unsigned_abs left

pub Balances-sum : (left right total : ℤ) → total ≡ left +ℤ right → Balances left right total
Balances-sum left right total e = record {
  to_right = λ d p q. divides_difference d total left right (omega (arith, ints)) p q;
  to_left = λ d p q. divides_difference d total right left (omega (arith, ints)) p q;
}

pub Balances-difference : (left right total : ℤ) → total ≡ left -ℤ right → Balances left right total
Balances-difference left right total e = record {
  to_right = λ d p q. divides_difference d left total right (omega (arith, ints)) q p;
  to_left = λ d p q. divides_sum d total right left (omega (arith, ints)) p q;
}

-- ---- common divisors of the least common denominator of two fractions and the numerator of their sum

half : (n m den u v left right : ℕ) → IsGcd n den 1 → u ∣ den → IsGcd u v 1 → left ≡ n * v → right ≡ m * u
    → (d : ℕ) → d ∣ u → (d ∣ right → d ∣ left) → d ∣ 1
half n m den u v left right lowest whole apart l r d p balances =
    let here : d ∣ right = subst (λ (k : ℕ). d ∣ k) (sym r) (dvd-mul_left_of_dvd d p m) in
    let there : d ∣ v * n = subst (λ (k : ℕ). d ∣ k) (l ∙ mul_comm n v) (balances here) in
    let alone : IsGcd d v 1 = coprime_from d v (λ e s t. apart.2 e (dvd_trans e s p) t) in
    lowest.2 d (divides_other_factor d v n alone there) (dvd_trans d p whole)

abs_over : (a b : Fraction) (g : ℕ) → greatest_common_divisor a.1 b.1 ≡ g → unsigned_abs (numerator_over_common a b) ≡ unsigned_abs a.0 * (b.1 / g)
abs_over a b g e = unsigned_abs-mul a.0 (pos (b.1 / greatest_common_divisor a.1 b.1)) ∙ ap (λ (k : ℕ). unsigned_abs a.0 * (b.1 / k)) e

quotient_divides : (n g : ℕ) → g ∣ n → (n / g) ∣ n
quotient_divides n g h = subst (λ (k : ℕ). (n / g) ∣ k) (div-mul_cancel g h) (dvd-mul_right (n / g) g)

pub common_divisors : (a b : Fraction) (total : ℤ) → InLowestTerms a → InLowestTerms b
    → Balances (numerator_over_common a b) (numerator_over_common b a) total
    → (d : ℕ) → d ∣ unsigned_abs total → d ∣ common_denominator a b → d ∣ greatest_common_divisor a.1 b.1
common_divisors a b total la lb balances d p q =
    let g = greatest_common_divisor a.1 b.1 in
    let is : IsGcd a.1 b.1 g = IsGcd-greatest a.1 b.1 in
    let u = a.1 / g in
    let v = b.1 / g in
    let apart : IsGcd u v 1 = coprime_without a.1 b.1 g (divisor_positive a.1 b.1 g lb.positive is) is in
    let left = abs_over a b g refl in
    let right = abs_over b a g (greatest_common_divisor_comm b.1 a.1) in
    let with_left : IsGcd d u 1 =
    coprime_from d u (λ e s t. half _ _ a.1 u v _ _ la.coprime (quotient_divides a.1 g is.0) apart left right e t (balances.to_left e (dvd_trans e s p))) in
    let with_right : IsGcd d v 1 =
    coprime_from d v (λ e s t. half _ _ b.1 v u _ _ lb.coprime (quotient_divides b.1 g is.1) (IsGcd-swap u v 1 apart) right left e t (balances.to_right e (dvd_trans e s p))) in
    let first : d ∣ a.1 = divides_other_factor d v a.1 with_right (subst (λ (n : ℕ). d ∣ n) (mul_comm a.1 v) q) in
    divides_other_factor d u g with_left (subst (λ (n : ℕ). d ∣ n) (sym (div-mul_cancel g is.0)) first)

-- the greatest common divisor of the denominators of a and b divides their least common denominator
pub divisor_divides : (a b : Fraction) → 0 < b.1 → greatest_common_divisor a.1 b.1 ∣ common_denominator a b
divisor_divides a b some =
    let g = greatest_common_divisor a.1 b.1 in
    dvd_trans g (IsGcd-greatest a.1 b.1).0 (dvd-mul_right a.1 (b.1 / g))

-- if `factor` divides den, and each common divisor of |n| and den divides `factor`, then a greatest common divisor of |n|
-- and `factor` is also a greatest common divisor of |n| and den
pub IsGcd-by_factor : (n : ℤ) (size den factor g : ℕ) → size ≡ unsigned_abs n → factor ∣ den
    → ((d : ℕ) → d ∣ unsigned_abs n → d ∣ den → d ∣ factor) → IsGcd size factor g → IsGcd size den g
IsGcd-by_factor n size den factor g e h common is =
    (is.0, dvd_trans g is.1 h, λ d p q. is.2 d p (common d (subst (λ (m : ℕ). d ∣ m) e p) q))
