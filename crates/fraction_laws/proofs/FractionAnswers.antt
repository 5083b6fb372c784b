-- The laws of `Frac`: its operations give the exact values; under certain conditions (specs/Room) they give a result;
-- and `Frac` can hold each of their results.
use Rattle.std.proofs.Common.{◌≡◌, ◌≢◌, ℕ, ◌+◌, ◌*◌, ◌/◌, ◌<◌, ◌≤◌, ◌^◌, sym, refl, ap, ◌∙◌, subst}
use Rattle.std.proofs.Common.{arith, ℤ, pos, ◌+ℤ◌, ◌-ℤ◌, ◌*ℤ◌, neg_ℤ, unsigned_abs, Bool, true}
use Rattle.std.proofs.Common.{false, cond, ◌&&◌, FitsSigned, Option, Some, None, IsSome, IfSome}
use Rattle.std.proofs.Common.{nat_lt}
use Rattle.std.specs.Int.{w128, IsGcd, ◌∣◌}
use Rattle.std.specs.Ordering.{int_eq}
use Rattle.std.proofs.lemmas.Int.{ints, unsigned_abs-mul, fits_signed_from_abs, quot_fits}
use Rattle.std.proofs.lemmas.Bool.{ltb-true, lt-ltb, both_ways, and_parts, and_from}
use Rattle.std.proofs.lemmas.Bool.Decides.{Decides-int_eq}
use Rattle.std.proofs.lemmas.Nat.Gcd.{IsGcd-swap, le_of_dvd}
use native.Mathlib.Nat.{pos_of_dvd_of_pos, zero-mul, div-one, div_self, mul-le-mul_left, mul-one}
use native.Mathlib.Nat.{one-mul, le-mul_of_pos_right, mul-le-mul, div-le_self, mul-pos}
use native.Mathlib.Nat.{mul-div_cancel', dvd_of_mul-dvd-mul_left, mul_assoc}
use Rattle.sym_model.proofs.Ring.{ring, negation-product, product-one}
use Rattle.sym_model.specs.Expansion.{Fraction}
use Rattle.fraction_laws.specs.Fractions.{whole, InLowestTerms, greatest_common_divisor, lowest_terms}
use Rattle.fraction_laws.specs.Fractions.{fraction_sum, fraction_difference, fraction_product}
use Rattle.fraction_laws.specs.Fractions.{fraction_negation, fraction_quotient, reciprocal}
use Rattle.fraction_laws.specs.Room.{magnitude, HasRoomForSum, HasRoomForProduct}
use Rattle.sym_model.specs.Canonical.{fits_128_bits}
use Rattle.fraction_laws.specs.Checked.{IsFraction, fits_fraction, checked_fraction}
use Rattle.fraction_laws.specs.Checked.{numerator_over_common, common_denominator, four_numbers_fit}
use Rattle.fraction_laws.specs.Checked.{checked_fraction_sum, checked_fraction_difference}
use Rattle.fraction_laws.specs.Checked.{checked_fraction_product, checked_fraction_quotient}
use Rattle.fraction_laws.specs.Checked.{checked_fraction_negation}
use Rattle.fraction_laws.specs.Answers.{AnswersSum, AnswersDifference, AnswersProduct}
use Rattle.fraction_laws.specs.Answers.{AnswersNegation, AnswersQuotient}
use Rattle.fraction_laws.specs.Laws.{SumLaws, RingLaws, FieldLaws}
use Rattle.fraction_laws.proofs.Divisors.{IsGcd-greatest, greatest_common_divisor-is}
use Rattle.fraction_laws.proofs.Divisors.{divisor_positive, divides_other_factor}
use Rattle.fraction_laws.proofs.Divisors.{coprime_without, coprime-one, quotient_positive}
use Rattle.fraction_laws.proofs.Fractions.{Stands-same, Stands-itself, Stands-sum}
use Rattle.fraction_laws.proofs.Fractions.{Stands-negation, Stands-lowest_terms}
use Rattle.fraction_laws.proofs.Fractions.{InLowestTerms-whole, unsigned_abs-quotient}
use Rattle.fraction_laws.proofs.FractionLaws.{sum_laws, ring_laws, field_laws, sum_comm}
use Rattle.fraction_laws.proofs.FractionLaws.{sum-zero, difference-is, reciprocal-lowest}
use Rattle.fraction_laws.proofs.Whole.{fitted, where_fits-true, IfSome-where_fits}
use Rattle.fraction_laws.proofs.Whole.{IsSome-where_fits, fits_from_test, test_from_fits}

-- ---- if a checked operation has a result, this is the exact value

pub fitted_sum : (a b s : Fraction) → checked_fraction_sum a b ≡ Some s → s ≡ fraction_sum a b
fitted_sum a b s =
    fitted (four_numbers_fit a b (numerator_over_common a b +ℤ numerator_over_common b a))
    (fraction_sum a b) s

pub fitted_product : (a b p : Fraction) → checked_fraction_product a b ≡ Some p
    → p ≡ fraction_product a b
fitted_product a b p = fitted (fits_fraction (fraction_product a b)) (fraction_product a b) p

-- ---- fractions that `Frac` can hold (`IsFraction`): those in lowest terms whose numerators and denominators fit

pub IsFraction-lowest_terms : (n : ℤ) (d : ℕ) → 0 < d → FitsSigned w128 n → d < 2 ^ 127
    → IsFraction (lowest_terms n d)
unfolding lowest_terms
IsFraction-lowest_terms n d some f small =
    let g = greatest_common_divisor (unsigned_abs n) d in
    let positive : 0 < g =
    divisor_positive (unsigned_abs n) d g some (IsGcd-greatest (unsigned_abs n) d) in
    record {
      fits = quot_fits w128 n (pos g) f (omega (arith, ints));
      small = omega (arith, div-le_self d g);
      lowest = (Stands-lowest_terms n d some).lowest;
    }

pub fits_fraction-held : (r : Fraction) → InLowestTerms r → fits_fraction r ≡ true → IsFraction r
fits_fraction-held r l t =
    let parts = and_parts (fits_128_bits r.0) (nat_lt r.1 (2 ^ 127)) t in
    record { fits = fits_from_test r.0 parts.0; small = ltb-true r.1 (2 ^ 127) parts.1; lowest = l }

pub held-fits_fraction : (r : Fraction) → IsFraction r → fits_fraction r ≡ true
held-fits_fraction r h =
    and_from (fits_128_bits r.0) (nat_lt r.1 (2 ^ 127)) (test_from_fits r.0 h.fits)
    (lt-ltb r.1 (2 ^ 127) h.small)

pub IsFraction-whole : (z : ℤ) → FitsSigned w128 z → IsFraction (z, 1)
IsFraction-whole z f = record { fits = f; small = omega arith; lowest = InLowestTerms-whole z }

pub zero_is_fraction : IsFraction (whole (pos 0))
zero_is_fraction = IsFraction-whole (pos 0) (omega (arith, ints))

pub one_is_fraction : IsFraction (whole (pos 1))
one_is_fraction = IsFraction-whole (pos 1) (omega (arith, ints))

pub IsFraction-negation : (n m : ℤ) (d : ℕ) → IsFraction (n, d) → FitsSigned w128 (neg_ℤ n)
    → m ≡ neg_ℤ n → IsFraction (m, d)
IsFraction-negation n m d h f e =
    let r : Fraction = (n, d) in
    let with_num : ℤ → Fraction = λ z. (z, d) in
    subst (λ (z : ℤ). IsFraction (with_num z)) (sym e)
    (record {
      fits = f;
      small = h.small;
      lowest = (Stands-negation r n d (Stands-itself r h.lowest)).lowest;
    })

-- ---- the least common denominator of two fractions, and their numerators over it

-- if the positive numbers x and y divide d, then y/gcd(x, y) divides d/x
cofactor_divides : (x y d : ℕ) → 0 < x → 0 < y → x ∣ d → y ∣ d
    → y / greatest_common_divisor x y ∣ d / x
cofactor_divides x y d sx sy p q =
    let g = greatest_common_divisor x y in
    let is : IsGcd x y g = IsGcd-greatest x y in
    let positive : 0 < g = divisor_positive x y g sy is in
    let coprime : IsGcd (y / g) (x / g) 1 =
    IsGcd-swap (x / g) (y / g) 1 (coprime_without x y g positive is) in
    let whole_x : g * (x / g) ≡ x = mul-div_cancel' g is.0 in
    let whole_y : g * (y / g) ≡ y = mul-div_cancel' g is.1 in
    let whole_d : x * (d / x) ≡ d = mul-div_cancel' x p in
    let split : g * ((x / g) * (d / x)) ≡ d =
    sym (mul_assoc g (x / g) (d / x)) ∙ ap (λ n. n * (d / x)) whole_x ∙ whole_d in
    let over : g * (y / g) ∣ g * ((x / g) * (d / x)) =
    subst (λ (n : ℕ). n ∣ g * ((x / g) * (d / x))) (sym whole_y)
    (subst (λ (n : ℕ). y ∣ n) (sym split) q) in
    divides_other_factor (y / g) (x / g) (d / x) coprime
    (dvd_of_mul-dvd-mul_left {k = g} (y / g) positive over)

cofactor_le : (x y d : ℕ) → 0 < x → 0 < y → 0 < d → x ∣ d → y ∣ d
    → y / greatest_common_divisor x y ≤ d / x
cofactor_le x y d sx sy some p q =
    le_of_dvd (quotient_positive d x some p) (cofactor_divides x y d sx sy p q)

abs_over_common : (a b : Fraction)
    → unsigned_abs (numerator_over_common a b)
    ≡ unsigned_abs a.0 * (b.1 / greatest_common_divisor a.1 b.1)
abs_over_common a b = unsigned_abs-mul a.0 (pos (b.1 / greatest_common_divisor a.1 b.1))

numerator_le : (d : ℕ) (a b : Fraction) → 0 < a.1 → 0 < b.1 → 0 < d → a.1 ∣ d → b.1 ∣ d
    → unsigned_abs (numerator_over_common a b) ≤ magnitude d a
numerator_le d a b sa sb some p q =
    subst (λ (n : ℕ). n ≤ magnitude d a) (sym (abs_over_common a b))
    (mul-le-mul_left (unsigned_abs a.0) (cofactor_le a.1 b.1 d sa sb some p q))

denominator_le : (d : ℕ) (a b : Fraction) → 0 < a.1 → 0 < b.1 → 0 < d → a.1 ∣ d → b.1 ∣ d
    → common_denominator a b ≤ d
denominator_le d a b sa sb some p q =
    subst (λ (n : ℕ). common_denominator a b ≤ n) (mul-div_cancel' a.1 p)
    (mul-le-mul_left a.1 (cofactor_le a.1 b.1 d sa sb some p q))

pub greatest_common_divisor_comm : (x y : ℕ) → greatest_common_divisor x y ≡ greatest_common_divisor y x
greatest_common_divisor_comm x y =
    greatest_common_divisor-is x y (greatest_common_divisor y x)
    (IsGcd-swap y x _ (IsGcd-greatest y x))

-- ---- the sum and the difference of two fractions, computed over their least common denominator

common_cross : (an ad bn bd p q g : ℤ) → g *ℤ p ≡ ad → g *ℤ q ≡ bd
    → (an *ℤ q +ℤ bn *ℤ p) *ℤ (ad *ℤ bd) ≡ (an *ℤ bd +ℤ bn *ℤ ad) *ℤ (ad *ℤ q)
common_cross an ad bn bd p q g e f =
    let at : (an *ℤ q +ℤ bn *ℤ p) *ℤ ((g *ℤ p) *ℤ (g *ℤ q))
    ≡ (an *ℤ (g *ℤ q) +ℤ bn *ℤ (g *ℤ p)) *ℤ ((g *ℤ p) *ℤ q) = simp ring (omega (arith, ints)) in
    subst (λ (x : ℤ). (an *ℤ q +ℤ bn *ℤ p) *ℤ (x *ℤ bd) ≡ (an *ℤ bd +ℤ bn *ℤ x) *ℤ (x *ℤ q)) e
    (subst (λ (y : ℤ). (an *ℤ q +ℤ bn *ℤ p) *ℤ ((g *ℤ p) *ℤ y)
    ≡ (an *ℤ y +ℤ bn *ℤ (g *ℤ p)) *ℤ ((g *ℤ p) *ℤ q)) f at)

pub common_positive : (a b : Fraction) → 0 < a.1 → 0 < b.1 → 0 < common_denominator a b
common_positive a b sa sb =
    mul-pos sa (quotient_positive b.1 (greatest_common_divisor a.1 b.1) sb
    (IsGcd-greatest a.1 b.1).1)

pub sum_over_common : (a b : Fraction) → InLowestTerms a → InLowestTerms b
    → lowest_terms (numerator_over_common a b +ℤ numerator_over_common b a) (common_denominator a b)
    ≡ fraction_sum a b
sum_over_common a b la lb =
    let g = greatest_common_divisor a.1 b.1 in
    let is : IsGcd a.1 b.1 g = IsGcd-greatest a.1 b.1 in
    let same : greatest_common_divisor b.1 a.1 ≡ g =
    greatest_common_divisor_comm b.1 a.1 in
    let left : pos g *ℤ pos (a.1 / greatest_common_divisor b.1 a.1) ≡ pos a.1 =
    ap pos (ap (λ (n : ℕ). g * (a.1 / n)) same ∙ mul-div_cancel' g is.0) in
    let right : pos g *ℤ pos (b.1 / g) ≡ pos b.1 = ap pos (mul-div_cancel' g is.1) in
    Stands-same _ _ _ _ _ _
    (Stands-lowest_terms (numerator_over_common a b +ℤ numerator_over_common b a)
    (common_denominator a b) (common_positive a b la.positive lb.positive))
    (Stands-sum a b _ _ _ _ (Stands-itself a la) (Stands-itself b lb))
    (common_cross a.0 (pos a.1) b.0 (pos b.1) (pos (a.1 / greatest_common_divisor b.1 a.1))
    (pos (b.1 / g)) (pos g) left right)

pub difference_over_common : (a b : Fraction) → InLowestTerms a → InLowestTerms b
    → lowest_terms (numerator_over_common a b -ℤ numerator_over_common b a) (common_denominator a b)
    ≡ fraction_difference a b
difference_over_common a b la lb =
    let join : ℤ → Fraction =
    λ n. lowest_terms (numerator_over_common a b +ℤ n) (common_denominator a b) in
    ap join (sym (negation-product b.0 (pos (a.1 / greatest_common_divisor b.1 a.1))))
    ∙ sum_over_common a (fraction_negation b) la
    (Stands-negation b b.0 b.1 (Stands-itself b lb)).lowest
    ∙ sym (difference-is a b)

-- ---- the four numbers in the computation of a sum or a difference fit in 128 bits

-- four numbers fit in 128 bits with a sign: the least common denominator of a and b, the numerators that a and b have
-- over it, and the number `total`
pub record FourNumbersFit (a b : Fraction) (total : ℤ) : Type 0 where
  pub left : FitsSigned w128 (numerator_over_common a b)
  pub right : FitsSigned w128 (numerator_over_common b a)
  pub total_fits : FitsSigned w128 total
  pub den : common_denominator a b < 2 ^ 127

pub four_numbers_fit-true : (a b : Fraction) (total : ℤ) → FourNumbersFit a b total
    → four_numbers_fit a b total ≡ true
four_numbers_fit-true a b total h =
    let first = fits_128_bits (numerator_over_common a b) in
    let second = fits_128_bits (numerator_over_common b a) in
    let fourth = fits_128_bits (pos (common_denominator a b)) in
    and_from (first && second && fits_128_bits total) fourth
    (and_from (first && second) (fits_128_bits total)
    (and_from first second (test_from_fits (numerator_over_common a b) h.left)
    (test_from_fits (numerator_over_common b a) h.right))
    (test_from_fits total h.total_fits))
    (lt-ltb (common_denominator a b) (2 ^ 127) h.den)

pub FourNumbersFit-from : (a b : Fraction) (total : ℤ) → four_numbers_fit a b total ≡ true
    → FourNumbersFit a b total
FourNumbersFit-from a b total t =
    let first = fits_128_bits (numerator_over_common a b) in
    let second = fits_128_bits (numerator_over_common b a) in
    let fourth = fits_128_bits (pos (common_denominator a b)) in
    let last = and_parts (first && second && fits_128_bits total) fourth t in
    let middle = and_parts (first && second) (fits_128_bits total) last.0 in
    let start = and_parts first second middle.0 in
    record {
      left = fits_from_test (numerator_over_common a b) start.0;
      right = fits_from_test (numerator_over_common b a) start.1;
      total_fits = fits_from_test total middle.1;
      den = ltb-true (common_denominator a b) (2 ^ 127) last.1;
    }

-- if d and |a|·d + |b|·d are below 2^127 for a common denominator d of a and b (`HasRoomForSum`), then the absolute values
-- of the numerators of a and b over their least common denominator add up to less than 2^127, and this denominator is
-- below 2^127
numbers_with_room : (d : ℕ) (a b : Fraction) → InLowestTerms a → InLowestTerms b
    → HasRoomForSum d a b
    → (unsigned_abs (numerator_over_common a b) + unsigned_abs (numerator_over_common b a)
    < 2 ^ 127) × (common_denominator a b < 2 ^ 127)
numbers_with_room d a b la lb r = (
  omega (
    arith,
    r.room,
    numerator_le d a b la.positive lb.positive r.positive r.left r.right,
    numerator_le d b a lb.positive la.positive r.positive r.right r.left,
  ),
  omega (arith, r.small, denominator_le d a b la.positive lb.positive r.positive r.left r.right),
)

four_from_room : (a b : Fraction) (x y total : ℤ) → x ≡ numerator_over_common a b
    → y ≡ numerator_over_common b a
    → unsigned_abs x + unsigned_abs y < 2 ^ 127 → common_denominator a b < 2 ^ 127
    → (FitsSigned w128 x → FitsSigned w128 y → FitsSigned w128 total) → FourNumbersFit a b total
four_from_room a b x y total e f small den h =
    let left : FitsSigned w128 x = fits_signed_from_abs w128 x (omega arith) in
    let right : FitsSigned w128 y = fits_signed_from_abs w128 y (omega arith) in
    record {
      left = subst (FitsSigned w128) e left;
      right = subst (FitsSigned w128) f right;
      total_fits = h left right;
      den = den;
    }

total_sum_fits : (x y : ℤ) → unsigned_abs x + unsigned_abs y < 2 ^ 127 → FitsSigned w128 (x +ℤ y)
total_sum_fits x y h = omega (arith, ints)

total_difference_fits : (x y : ℤ) → unsigned_abs x + unsigned_abs y < 2 ^ 127
    → FitsSigned w128 (x -ℤ y)
total_difference_fits x y h = omega (arith, ints)

-- ---- sums of two fractions of which one is 0

greatest_common_divisor-one : (x : ℕ) → greatest_common_divisor x 1 ≡ 1
greatest_common_divisor-one x = greatest_common_divisor-is x 1 1 (coprime-one x)

greatest_common_divisor-of_one : (x : ℕ) → 0 < x → greatest_common_divisor 1 x ≡ 1
greatest_common_divisor-of_one x some =
    greatest_common_divisor-is 1 x 1 (IsGcd-swap x 1 1 (coprime-one x))

-- over the least common denominator of 0 and a fraction b, the numerator of 0 is 0 (`zero_numerator`), the numerator
-- of b is unchanged (`same_numerator`), and this denominator is the denominator of b
zero_numerator : (b : Fraction) → numerator_over_common (whole (pos 0)) b ≡ pos 0
zero_numerator b = ap pos (zero-mul (b.1 / greatest_common_divisor 1 b.1))

same_numerator : (b : Fraction) → numerator_over_common b (whole (pos 0)) ≡ b.0
same_numerator b =
    ap (λ (n : ℕ). b.0 *ℤ pos (1 / n)) (greatest_common_divisor-one b.1)
    ∙ ap (λ (n : ℕ). b.0 *ℤ pos n) (div-one 1) ∙ product-one b.0

denominator_after_zero : (b : Fraction) → 0 < b.1 → common_denominator (whole (pos 0)) b ≡ b.1
denominator_after_zero b some =
    ap (λ (n : ℕ). 1 * (b.1 / n)) (greatest_common_divisor-of_one b.1 some) ∙ one-mul (b.1 / 1)
    ∙ div-one b.1

denominator_before_zero : (b : Fraction) → common_denominator b (whole (pos 0)) ≡ b.1
denominator_before_zero b =
    ap (λ (n : ℕ). b.1 * (1 / n)) (greatest_common_divisor-one b.1)
    ∙ ap (λ (n : ℕ). b.1 * n) (div-one 1) ∙ mul-one b.1

zero_fits : (x : ℤ) → x ≡ pos 0 → FitsSigned w128 x
zero_fits x e = omega (arith, ints)

total_after_zero : (x y z : ℤ) → x ≡ pos 0 → y ≡ z → FitsSigned w128 z → FitsSigned w128 (x +ℤ y)
total_after_zero x y z e f h = omega (arith, ints)

total_before_zero : (x y z : ℤ) → x ≡ pos 0 → y ≡ z → FitsSigned w128 z → FitsSigned w128 (y +ℤ x)
total_before_zero x y z e f h = omega (arith, ints)

sum_after_zero : (b : Fraction) → IsFraction b → checked_fraction_sum (whole (pos 0)) b ≡ Some b
sum_after_zero b h =
    where_fits-true _ (fraction_sum (whole (pos 0)) b)
    (four_numbers_fit-true (whole (pos 0)) b _ (record {
      left = zero_fits (numerator_over_common (whole (pos 0)) b) (zero_numerator b);
      right = subst (FitsSigned w128) (sym (same_numerator b)) h.fits;
      total_fits =
          total_after_zero (numerator_over_common (whole (pos 0)) b)
          (numerator_over_common b (whole (pos 0))) b.0 (zero_numerator b)
          (same_numerator b) h.fits;
      den =
          subst (λ (n : ℕ). n < 2 ^ 127) (sym (denominator_after_zero b h.lowest.positive)) h.small;
    }))
    ∙ ap Some (sum_comm (whole (pos 0)) b ∙ sum-zero b h.lowest)

sum_before_zero : (b : Fraction) → IsFraction b → checked_fraction_sum b (whole (pos 0)) ≡ Some b
sum_before_zero b h =
    where_fits-true _ (fraction_sum b (whole (pos 0)))
    (four_numbers_fit-true b (whole (pos 0)) _ (record {
      left = subst (FitsSigned w128) (sym (same_numerator b)) h.fits;
      right = zero_fits (numerator_over_common (whole (pos 0)) b) (zero_numerator b);
      total_fits =
          total_before_zero (numerator_over_common (whole (pos 0)) b)
          (numerator_over_common b (whole (pos 0))) b.0 (zero_numerator b)
          (same_numerator b) h.fits;
      den = subst (λ (n : ℕ). n < 2 ^ 127) (sym (denominator_before_zero b)) h.small;
    }))
    ∙ ap Some (sum-zero b h.lowest)

-- ---- the results of a checked sum and a checked difference of fractions

pub sum_answers_fraction : (a b : Fraction) → IsFraction a → IsFraction b
    → AnswersSum (λ r. r) a b (checked_fraction_sum a b)
sum_answers_fraction a b h k =
    let total = numerator_over_common a b +ℤ numerator_over_common b a in
    record {
      value =
          IfSome-where_fits (four_numbers_fit a b total) (fraction_sum a b)
          (λ s. s ≡ fraction_sum a b) (λ _. refl);
      zero_left = λ e. ap (λ (r : Fraction). checked_fraction_sum r b) e ∙ sum_after_zero b k;
      zero_right = λ e. ap (λ (r : Fraction). checked_fraction_sum a r) e ∙ sum_before_zero a h;
      room = λ d r.
          let sizes = numbers_with_room d a b h.lowest k.lowest r in
          IsSome-where_fits (four_numbers_fit a b total) (fraction_sum a b)
          (four_numbers_fit-true a b total
          (four_from_room a b (numerator_over_common a b)
          (numerator_over_common b a) total refl refl sizes.0 sizes.1
          (λ _ _. total_sum_fits (numerator_over_common a b) (numerator_over_common b a) sizes.0)));
    }

pub difference_answers_fraction : (a b : Fraction) → IsFraction a → IsFraction b
    → AnswersDifference (λ r. r) a b (checked_fraction_difference a b)
difference_answers_fraction a b h k =
    let total = numerator_over_common a b -ℤ numerator_over_common b a in
    record {
      value =
          IfSome-where_fits (four_numbers_fit a b total) (fraction_difference a b)
          (λ s. s ≡ fraction_difference a b) (λ _. refl);
      room = λ d r.
          let sizes = numbers_with_room d a b h.lowest k.lowest r in
          IsSome-where_fits (four_numbers_fit a b total) (fraction_difference a b)
          (four_numbers_fit-true a b total
          (four_from_room a b (numerator_over_common a b)
          (numerator_over_common b a) total refl refl sizes.0 sizes.1
          (λ _ _. total_difference_fits (numerator_over_common a b)
          (numerator_over_common b a) sizes.0)));
    }

held_over_common : (a b r : Fraction) (total : ℤ) → IsFraction a → IsFraction b
    → lowest_terms total (common_denominator a b) ≡ r
    → four_numbers_fit a b total ≡ true → IsFraction r
held_over_common a b r total h k e t =
    let four = FourNumbersFit-from a b total t in
    subst IsFraction e (IsFraction-lowest_terms total (common_denominator a b)
    (common_positive a b h.lowest.positive k.lowest.positive) four.total_fits four.den)

pub sum_held_fraction : (a b : Fraction) → IsFraction a → IsFraction b
    → IfSome (checked_fraction_sum a b) IsFraction
sum_held_fraction a b h k =
    let total = numerator_over_common a b +ℤ numerator_over_common b a in
    IfSome-where_fits (four_numbers_fit a b total) (fraction_sum a b) IsFraction
    (held_over_common a b (fraction_sum a b) total h k (sum_over_common a b h.lowest k.lowest))

pub difference_held_fraction : (a b : Fraction) → IsFraction a → IsFraction b
    → IfSome (checked_fraction_difference a b) IsFraction
difference_held_fraction a b h k =
    let total = numerator_over_common a b -ℤ numerator_over_common b a in
    IfSome-where_fits (four_numbers_fit a b total) (fraction_difference a b) IsFraction
    (held_over_common a b (fraction_difference a b) total h k
    (difference_over_common a b h.lowest k.lowest))

-- ---- the results of a checked product and a checked quotient of fractions

-- in n/d in lowest terms, the numerator has an absolute value of at most |n|, and the denominator is at most d
pub lowest_terms_le : (n : ℤ) (d : ℕ) → 0 < d
    → (unsigned_abs (lowest_terms n d).0 ≤ unsigned_abs n) × ((lowest_terms n d).1 ≤ d)
unfolding lowest_terms
lowest_terms_le n d some =
    let g = greatest_common_divisor (unsigned_abs n) d in (
      subst (λ (m : ℕ). m ≤ unsigned_abs n) (sym (unsigned_abs-quotient n g))
          (div-le_self (unsigned_abs n) g),
      div-le_self d g,
    )

-- if d·e and |a|·d·|b|·e are below 2^127 for multiples d of the denominator of a and e of the denominator of b
-- (`HasRoomForProduct`), then the checked product of a and b has a result
product_fits : (d e : ℕ) (a b : Fraction) → HasRoomForProduct d e a b
    → IsSome (checked_fraction_product a b)
product_fits d e a b r =
    let smaller =
    lowest_terms_le (a.0 *ℤ b.0) (a.1 * b.1)
    (mul-pos (pos_of_dvd_of_pos r.left r.left_positive)
    (pos_of_dvd_of_pos r.right r.right_positive)) in
    let dens : a.1 * b.1 ≤ d * e =
    mul-le-mul (le_of_dvd r.left_positive r.left) (le_of_dvd r.right_positive r.right) in
    let left : unsigned_abs a.0 ≤ magnitude d a =
    le-mul_of_pos_right (unsigned_abs a.0) (quotient_positive d a.1 r.left_positive r.left) in
    let right : unsigned_abs b.0 ≤ magnitude e b =
    le-mul_of_pos_right (unsigned_abs b.0) (quotient_positive e b.1 r.right_positive r.right) in
    let nums : unsigned_abs a.0 * unsigned_abs b.0 ≤ magnitude d a * magnitude e b =
    mul-le-mul left right in
    let size : unsigned_abs (a.0 *ℤ b.0) ≡ unsigned_abs a.0 * unsigned_abs b.0 =
    unsigned_abs-mul a.0 b.0 in
    IsSome-where_fits (fits_fraction (fraction_product a b)) (fraction_product a b)
    (and_from (fits_128_bits (fraction_product a b).0) (nat_lt (fraction_product a b).1 (2 ^ 127))
    (test_from_fits (fraction_product a b).0
    (fits_signed_from_abs w128 (fraction_product a b).0
    (omega (arith, smaller.0, size, nums, r.room))))
    (lt-ltb (fraction_product a b).1 (2 ^ 127) (omega (arith, smaller.1, dens, r.small))))

pub product_answers_fraction : (a b : Fraction)
    → AnswersProduct (λ r. r) a b (checked_fraction_product a b)
product_answers_fraction a b = record {
  value =
      IfSome-where_fits (fits_fraction (fraction_product a b)) (fraction_product a b)
      (λ s. s ≡ fraction_product a b) (λ _. refl);
  room = λ d e r. product_fits d e a b r;
}

pub checked_fraction-held : (r : Fraction) → InLowestTerms r
    → IfSome (checked_fraction r) IsFraction
checked_fraction-held r l =
    IfSome-where_fits (fits_fraction r) r IsFraction (fits_fraction-held r l)

pub product_held_fraction : (a b : Fraction) → IsFraction a → IsFraction b
    → IfSome (checked_fraction_product a b) IsFraction
product_held_fraction a b h k =
    checked_fraction-held (fraction_product a b)
    (Stands-lowest_terms (a.0 *ℤ b.0) (a.1 * b.1)
    (mul-pos h.lowest.positive k.lowest.positive)).lowest

pub quotient_held_fraction : (a b : Fraction) → IsFraction a → IsFraction b → b ≢ whole (pos 0)
    → IfSome (checked_fraction_quotient a b) IsFraction
quotient_held_fraction a b h k other =
    let l = reciprocal-lowest b k.lowest other in
    checked_fraction-held (fraction_quotient a b)
    (Stands-lowest_terms (a.0 *ℤ (reciprocal b).0) (a.1 * (reciprocal b).1)
    (mul-pos h.lowest.positive l.positive)).lowest

pub quotient_answers_fraction : (a b : Fraction)
    → AnswersQuotient (λ r. r) a b (checked_fraction_quotient a b)
quotient_answers_fraction a b = record {
  value =
      IfSome-where_fits (fits_fraction (fraction_quotient a b)) (fraction_quotient a b)
      (λ s. s ≡ fraction_quotient a b) (λ _. refl);
  room = λ d e r. product_fits d e a (reciprocal b) r;
}

-- ---- the result of a checked negation of a fraction

negation_step : (a : Fraction) (t : Bool) (P : Option Fraction → Type 0)
    → int_eq a.0 (neg_ℤ (pos (2 ^ 127))) ≡ t
    → (t ≡ true → P None) → (t ≡ false → P (Some (fraction_negation a)))
    → P (cond t None (Some (fraction_negation a)))
negation_step a true P e none some = none refl
negation_step a false P e none some = some refl

negation_fits : (z : ℤ) → z ≢ neg_ℤ (pos (2 ^ 127)) → FitsSigned w128 z → FitsSigned w128 (neg_ℤ z)
negation_fits z other f = omega (arith, ints)

pub negation_answers_fraction : (a : Fraction) → IsFraction a
    → AnswersNegation (λ r. r) a (checked_fraction_negation a)
negation_answers_fraction a h = record {
  value =
      negation_step a _ (λ o. IfSome o (λ s. s ≡ fraction_negation a)) refl (λ _. tt) (λ _. refl);
  room = λ r.
      let one : a.1 / a.1 ≡ 1 = div_self h.lowest.positive in
      let small : unsigned_abs a.0 < 2 ^ 127 =
      subst (λ (n : ℕ). n < 2 ^ 127)
      (ap (λ (n : ℕ). unsigned_abs a.0 * n) one ∙ mul-one (unsigned_abs a.0)) r in
      negation_step a _ (λ o. IsSome o) refl
      (λ t. let size : unsigned_abs a.0
      ≡ 2 ^ 127 = ap unsigned_abs ((Decides-int_eq a.0 (neg_ℤ (pos (2 ^ 127)))).0 t) in
      absurd (omega arith))
      (λ _. refl);
}

pub negation_held_fraction : (a : Fraction) → IsFraction a
    → IfSome (checked_fraction_negation a) IsFraction
negation_held_fraction a h =
    negation_step a _ (λ o. IfSome o IsFraction) refl (λ _. tt)
    (λ t. record {
      fits =
          negation_fits a.0 (λ e. both_ways _ t ((Decides-int_eq a.0 (neg_ℤ (pos (2 ^ 127)))).1 e))
          h.fits;
      small = h.small;
      lowest = (Stands-negation a a.0 a.1 (Stands-itself a h.lowest)).lowest;
    })

pub sum_laws_fraction : SumLaws IsFraction (λ r. r)
sum_laws_fraction = sum_laws IsFraction (λ r. r) (λ a h. h.lowest)

pub ring_laws_fraction : RingLaws IsFraction (λ r. r)
ring_laws_fraction = ring_laws IsFraction (λ r. r) (λ a h. h.lowest)

pub field_laws_fraction : FieldLaws IsFraction (λ r. r)
field_laws_fraction = field_laws IsFraction (λ r. r) (λ a h. h.lowest)
