-- Fractions given by a sign and the absolute values of numerator and denominator, and the results of the functions
-- that compute with these.
use Rattle.std.proofs.Common.{◌≡◌, ◌≢◌, ℕ, zero, suc, ◌*◌, ◌/◌, ◌<◌, ◌≤◌, ◌^◌, sym, refl, ap, ◌∙◌, subst, arith, ℤ, pos, negsuc, ◌*ℤ◌, neg_ℤ, unsigned_abs, int_div, int_lt, Bool, true, false, FitsSigned, Option, Some, None, nat_lt, cond, IfSome, nat_eq, IsTrue, ◌↔◌, inl, inr, ◌⊎◌}
use Rattle.std.specs.Int.{w128, cast_unsigned, IsGcd, ◌∣◌}
use Rattle.std.specs.Ordering.{int_eq}
use Rattle.std.proofs.lemmas.Int.{ints}
use Rattle.std.proofs.lemmas.Bool.{ltb-true, eqb-true, eq-eqb, le-ltb, both_ways, and_left, and_right, false_from_ne_true, cond-false, cases_lt, lt-ltb}
use Rattle.std.proofs.lemmas.Bool.Decides.{Decides-int_eq}
use Rattle.std.proofs.lemmas.Option.{cond_some}
use Rattle.std.specs.Prelude.{nat_abs}
use native.Mathlib.Nat.{dvd_trans, dvd-mul_right, zero-div, mul-one, one-mul, mul-pos, div-mul_cancel}
use Rattle.sym_model.proofs.Ring.{negation-product}
use Rattle.sym_model.specs.Expansion.{Fraction}
use Rattle.fraction_laws.specs.Fractions.{whole, InLowestTerms, greatest_common_divisor, lowest_terms, fraction_product, fraction_quotient, turned_over, reciprocal}
use Rattle.coeff_rings.specs.Signs.{signed, signs_differ}
use Rattle.sym_model.specs.Canonical.{fits_128_bits}
use Rattle.fraction_laws.specs.Checked.{where_fits, checked_i128, checked_fraction, IsFraction, checked_fraction_of, checked_fraction_quotient, checked_fraction_product}
use Rattle.fraction_laws.proofs.Divisors.{coprime_from, greatest_common_divisor-is, coprime-products, coprime_without, quotient_positive, divisor_positive}
use Rattle.fraction_laws.proofs.Fractions.{Stands-same, Stands-itself, Stands-lowest_terms, InLowestTerms-whole}
use Rattle.fraction_laws.proofs.FractionLaws.{num-zero, reciprocal-lowest}
use Rattle.fraction_laws.proofs.Whole.{fits_from_test, where_fits-true}
use Rattle.fraction_laws.proofs.FractionAnswers.{checked_fraction-held}

-- ---- integers as a sign and an absolute value

pub unsigned_abs-signed : (s : Bool) (n : ℕ) → unsigned_abs (signed s n) ≡ n
unsigned_abs-signed true zero = refl
unsigned_abs-signed true (suc n) = refl
unsigned_abs-signed false n = refl

pub signed_times : (s : Bool) (n m : ℕ) → signed s n *ℤ pos m ≡ signed s (n * m)
signed_times true n m = negation-product (pos n) (pos m)
signed_times false n m = refl

pub signed_quotient : (s : Bool) (n g : ℕ) → int_div (signed s n) (pos g) ≡ signed s (n / g)
signed_quotient true zero g = ap pos (zero-div g) ∙ sym (ap (λ (n : ℕ). neg_ℤ (pos n)) (zero-div g))
signed_quotient true (suc n) g = refl
signed_quotient false n g = refl

pub signed_self : (z : ℤ) → signed (int_lt z (pos 0)) (unsigned_abs z) ≡ z
signed_self (pos n) = not_below (int_lt (pos n) (pos 0)) n (λ t. let below : n < 0 = ltb-true n 0 t in omega arith)
  where
    not_below : (t : Bool) (n : ℕ) → (t ≡ true → ⊥) → signed t n ≡ pos n
    not_below true n h = absurd (h refl)
    not_below false n h = refl
signed_self (negsuc n) = refl

pub signed_product : (a b : ℤ) → signed (signs_differ a b) (unsigned_abs a * unsigned_abs b) ≡ a *ℤ b
signed_product (pos a) (pos b) = refl
signed_product (pos a) (negsuc b) = refl
signed_product (negsuc a) (pos b) = refl
signed_product (negsuc a) (negsuc b) = refl

pub signed_turned_over : (a n : ℤ) (d : ℕ) → 0 < d → signed (signs_differ a n) (unsigned_abs a * d) ≡ a *ℤ (turned_over n d).0
signed_turned_over a n zero some = absurd (omega arith)
signed_turned_over (pos a) (pos n) (suc d) some = refl
signed_turned_over (pos a) (negsuc n) (suc d) some = refl
signed_turned_over (negsuc a) (pos n) (suc d) some = refl
signed_turned_over (negsuc a) (negsuc n) (suc d) some = refl

pub den-turned_over : (n : ℤ) (d : ℕ) → (turned_over n d).1 ≡ unsigned_abs n
den-turned_over (pos n) d = refl
den-turned_over (negsuc n) d = refl

-- ---- fractions whose numerator or denominator does not fit in 128 bits

pub checked_fraction-num : (r : Fraction) → fits_128_bits r.0 ≡ false → None ≡ checked_fraction r
checked_fraction-num r e = ap (λ (t : Bool). where_fits t r) (sym (and_left (fits_128_bits r.0) (nat_lt r.1 (2 ^ 127)) e))

pub checked_fraction-den : (r : Fraction) → 2 ^ 127 ≤ r.1 → None ≡ checked_fraction r
checked_fraction-den r h = ap (λ (t : Bool). where_fits t r) (sym (and_right (fits_128_bits r.0) (nat_lt r.1 (2 ^ 127)) (le-ltb r.1 (2 ^ 127) h)))

-- an integer with an absolute value over 2^127 does not fit in 128 bits, whatever its sign
pub signed-large : (s : Bool) (n : ℕ) → 2 ^ 127 < n → fits_128_bits (signed s n) ≡ false
signed-large s n h = false_from_ne_true (fits_128_bits (signed s n)) (λ t. too_large s n (fits_from_test (signed s n) t) h)
  where
    too_large : (s : Bool) (n : ℕ) → FitsSigned w128 (signed s n) → 2 ^ 127 < n → ⊥
    too_large true n f h = omega (arith, ints)
    too_large false n f h = omega (arith, ints)

pub checked_i128-some : (z w : ℤ) → Some w ≡ checked_i128 z → (w ≡ z) × FitsSigned w128 z
checked_i128-some z w e =
    let parts = cond_some (fits_128_bits z) z w (sym e) in
    (sym parts.1, fits_from_test z parts.0)

-- ---- fractions in lowest terms, given by their sign and absolute values

-- `of_sizes s n d`: the fraction n/d, with the sign - if s is true
abbrev pub of_sizes : Bool → ℕ → ℕ → Fraction
of_sizes s n d = (signed s n, d)

pub of_sizes-lowest : (s : Bool) (n d : ℕ) → 0 < d → IsGcd n d 1 → InLowestTerms (of_sizes s n d)
of_sizes-lowest s n d some h = record { positive = some; coprime = subst (λ (m : ℕ). IsGcd m d 1) (sym (unsigned_abs-signed s n)) h }

pub lowest_terms-sizes : (s : Bool) (n d g : ℕ) → 0 < d → IsGcd n d g → of_sizes s (n / g) (d / g) ≡ lowest_terms (signed s n) d
unfolding lowest_terms
lowest_terms-sizes s n d g some h =
    let divisor : greatest_common_divisor (unsigned_abs (signed s n)) d ≡ g =
    ap (λ (m : ℕ). greatest_common_divisor m d) (unsigned_abs-signed s n) ∙ greatest_common_divisor-is n d g h in
    let over : ℕ → Fraction = λ m. (int_div (signed s n) (pos m), d / m) in
    let with_num : ℤ → Fraction = λ z. (z, d / g) in
    ap with_num (sym (signed_quotient s n g)) ∙ ap over (sym divisor)

cancelled_cross : (x z w y g h : ℕ) → (x * z) * ((w * h) * (y * g)) ≡ ((x * g) * (z * h)) * (w * y)
cancelled_cross x z w y g h = omega arith

part_divides : (n g : ℕ) → g ∣ n → n / g ∣ n
part_divides n g p = subst (λ (v : ℕ). n / g ∣ v) (div-mul_cancel g p) (dvd-mul_right (n / g) g)

coprime-parts : (a b x y : ℕ) → IsGcd a b 1 → x ∣ a → y ∣ b → IsGcd x y 1
coprime-parts a b x y c p q = coprime_from x y (λ k u v. c.2 k (dvd_trans k u p) (dvd_trans k v q))

cancelled_parts : (n d m e g h : ℕ) → 0 < d → 0 < e → IsGcd n d 1 → IsGcd m e 1 → IsGcd n e g → IsGcd m d h
    → (0 < (d / h) * (e / g)) × IsGcd ((n / g) * (m / h)) ((d / h) * (e / g)) 1
cancelled_parts n d m e g h sd se nd me ne md = (
  mul-pos (quotient_positive d h sd md.1) (quotient_positive e g se ne.1),
  coprime-products (n / g) (m / h) (d / h) (e / g)
      (coprime-parts n d (n / g) (d / h) nd (part_divides n g ne.0) (part_divides d h md.1))
      (coprime_without n e g (divisor_positive n e g se ne) ne)
      (coprime_without m d h (divisor_positive m d h sd md) md)
      (coprime-parts m e (m / h) (e / g) me (part_divides m h md.0) (part_divides e g ne.1)),
)

pub lowest_terms-product : (s : Bool) (n d m e g h : ℕ) → 0 < d → 0 < e → IsGcd n d 1 → IsGcd m e 1 → IsGcd n e g → IsGcd m d h
    → of_sizes s ((n / g) * (m / h)) ((d / h) * (e / g)) ≡ lowest_terms (signed s (n * m)) (d * e)
lowest_terms-product s n d m e g h sd se nd me ne md =
    let parts = cancelled_parts n d m e g h sd se nd me ne md in
    let cross : ((n / g) * (m / h)) * (d * e) ≡ (n * m) * ((d / h) * (e / g)) =
    ap (λ (v : ℕ). ((n / g) * (m / h)) * (v * e)) (sym (div-mul_cancel h md.1))
    ∙ ap (λ (v : ℕ). ((n / g) * (m / h)) * ((d / h * h) * v)) (sym (div-mul_cancel g ne.1))
    ∙ cancelled_cross (n / g) (m / h) (d / h) (e / g) g h
    ∙ ap (λ (v : ℕ). (v * (m / h * h)) * ((d / h) * (e / g))) (div-mul_cancel g ne.0)
    ∙ ap (λ (v : ℕ). (n * v) * ((d / h) * (e / g))) (div-mul_cancel h md.0) in
    Stands-same _ _ _ _ _ _
    (Stands-itself (of_sizes s ((n / g) * (m / h)) ((d / h) * (e / g))) (of_sizes-lowest s ((n / g) * (m / h)) ((d / h) * (e / g)) parts.0 parts.1))
    (Stands-lowest_terms (signed s (n * m)) (d * e) (mul-pos sd se))
    (signed_times s ((n / g) * (m / h)) (d * e) ∙ ap (signed s) cross ∙ sym (signed_times s (n * m) ((d / h) * (e / g))))

pub IsFraction-sizes : (s : Bool) (n d : ℕ) (w : ℤ) → w ≡ signed s n → FitsSigned w128 w → 0 < d → d < 2 ^ 127 → IsGcd n d 1 → IsFraction (w, d)
IsFraction-sizes s n d w e f some small h = record {
  fits = f;
  small = small;
  lowest = record { positive = some; coprime = subst (λ (m : ℕ). IsGcd m d 1) (sym (ap unsigned_abs e ∙ unsigned_abs-signed s n)) h };
}

-- ---- the results of the functions `product` and `Frac::new`

pub product_num-large : (s : Bool) (n d m e g h : ℕ) → 0 < d → 0 < e → IsGcd n d 1 → IsGcd m e 1 → IsGcd n e g → IsGcd m d h
    → 2 ^ 127 < (n / g) * (m / h) → None ≡ checked_fraction (lowest_terms (signed s (n * m)) (d * e))
product_num-large s n d m e g h sd se nd me ne md large =
    checked_fraction-num (of_sizes s ((n / g) * (m / h)) ((d / h) * (e / g))) (signed-large s ((n / g) * (m / h)) large)
    ∙ ap checked_fraction (lowest_terms-product s n d m e g h sd se nd me ne md)

pub product_den-large : (s : Bool) (n d m e g h : ℕ) → 0 < d → 0 < e → IsGcd n d 1 → IsGcd m e 1 → IsGcd n e g → IsGcd m d h
    → 2 ^ 127 ≤ (d / h) * (e / g) → None ≡ checked_fraction (lowest_terms (signed s (n * m)) (d * e))
product_den-large s n d m e g h sd se nd me ne md large =
    checked_fraction-den (of_sizes s ((n / g) * (m / h)) ((d / h) * (e / g))) large
    ∙ ap checked_fraction (lowest_terms-product s n d m e g h sd se nd me ne md)

-- if den ≠ 0, then `checked_fraction_of num den` is |num|/|den| in lowest terms, with the sign - if the signs of num and den
-- differ, or None if that fraction does not fit in 128 bits
pub checked_fraction_of-sizes : (num den : ℤ) → den ≢ pos 0
    → checked_fraction (lowest_terms (signed (signs_differ num den) (unsigned_abs num)) (unsigned_abs den)) ≡ checked_fraction_of num den
checked_fraction_of-sizes num den other =
    let top : signed (signs_differ num den) (unsigned_abs num) ≡ num *ℤ (turned_over den 1).0 =
    ap (signed (signs_differ num den)) (sym (mul-one (unsigned_abs num))) ∙ signed_turned_over num den 1 (omega arith) in
    let bottom : unsigned_abs den ≡ 1 * (turned_over den 1).1 = sym (one-mul (turned_over den 1).1 ∙ den-turned_over den 1) in
    ap (λ (z : ℤ). checked_fraction (lowest_terms z (unsigned_abs den))) top
    ∙ ap (λ (n : ℕ). checked_fraction (lowest_terms (num *ℤ (turned_over den 1).0) n)) bottom
    ∙ sym (cond-false (int_eq den (pos 0)) None (checked_fraction_quotient (whole num) (whole den))
    (false_from_ne_true (int_eq den (pos 0)) (λ t. other ((Decides-int_eq den (pos 0)).0 t))))

pub product-sizes : (a b : Fraction) → lowest_terms (signed (signs_differ a.0 b.0) (unsigned_abs a.0 * unsigned_abs b.0)) (a.1 * b.1) ≡ fraction_product a b
product-sizes a b = ap (λ (z : ℤ). lowest_terms z (a.1 * b.1)) (signed_product a.0 b.0)

pub quotient-sizes : (a b : Fraction) → 0 < b.1 → lowest_terms (signed (signs_differ a.0 b.0) (unsigned_abs a.0 * b.1)) (a.1 * unsigned_abs b.0) ≡ fraction_quotient a b
quotient-sizes a b some =
    ap (λ (z : ℤ). lowest_terms z (a.1 * unsigned_abs b.0)) (signed_turned_over a.0 b.0 b.1 some)
    ∙ ap (λ (n : ℕ). lowest_terms (a.0 *ℤ (reciprocal b).0) (a.1 * n)) (sym (den-turned_over b.0 b.1))

pub size_positive : (b : Fraction) → InLowestTerms b → b ≢ whole (pos 0) → 0 < unsigned_abs b.0
size_positive b l other = from b.0 (λ e. other (num-zero b l e))
  where
    from : (z : ℤ) → z ≢ pos 0 → 0 < unsigned_abs z
    from (pos zero) h = absurd (h refl)
    from (pos (suc n)) h = omega arith
    from (negsuc n) h = omega arith

-- if n/d and m/e are in lowest terms, g = gcd(n, e) and h = gcd(m, d), then num = (n/g)·(m/h) and den = (d/h)·(e/g) are
-- coprime, and den is positive
pub product-parts : (n d m e g h num den : ℕ) → 0 < d → 0 < e → IsGcd n d 1 → IsGcd m e 1 → IsGcd n e g → IsGcd m d h
    → num ≡ (n / g) * (m / h) → den ≡ (d / h) * (e / g) → (0 < den) × IsGcd num den 1
product-parts n d m e g h num den sd se nd me ne md en ed =
    let parts = cancelled_parts n d m e g h sd se nd me ne md in (
      subst (λ (k : ℕ). 0 < k) (sym ed) parts.0,
      subst (λ (k : ℕ). IsGcd k den 1) (sym en) (subst (λ (k : ℕ). IsGcd ((n / g) * (m / h)) k 1) (sym ed) parts.1),
    )

pub product-answer : (s : Bool) (n d m e g h num den : ℕ) → 0 < d → 0 < e → IsGcd n d 1 → IsGcd m e 1 → IsGcd n e g → IsGcd m d h
    → num ≡ (n / g) * (m / h) → den ≡ (d / h) * (e / g) → checked_fraction (of_sizes s num den) ≡ checked_fraction (lowest_terms (signed s (n * m)) (d * e))
product-answer s n d m e g h num den sd se nd me ne md en ed =
    ap (λ (k : ℕ). checked_fraction (of_sizes s k den)) en ∙ ap (λ (k : ℕ). checked_fraction (of_sizes s ((n / g) * (m / h)) k)) ed
    ∙ ap checked_fraction (lowest_terms-product s n d m e g h sd se nd me ne md)

-- let |a| = n/d and |b| = m/e, and let s be true if and only if the signs of a and b differ. Then `checked_fraction_product a b`
-- is (n·m)/(d·e) in lowest terms, with the sign - if s is true, or None if that fraction does not fit in 128 bits.
pub product-steps : (a b : Fraction) (s : Bool) (n d m e : ℕ) (answer : Option Fraction) → s ≡ signs_differ a.0 b.0
    → n ≡ unsigned_abs a.0 → d ≡ a.1 → m ≡ unsigned_abs b.0 → e ≡ b.1
    → answer ≡ checked_fraction (lowest_terms (signed s (n * m)) (d * e)) → answer ≡ checked_fraction_product a b
product-steps a b s n d m e answer ps pn pd pm pe is =
    let value : Bool → ℕ → ℕ → ℕ → ℕ → Option Fraction = λ s n d m e. checked_fraction (lowest_terms (signed s (n * m)) (d * e)) in
    let size = unsigned_abs a.0 in
    let t = signs_differ a.0 b.0 in
    is ∙ ap (λ (x : Bool). value x n d m e) ps ∙ ap (λ (x : ℕ). value t x d m e) pn ∙ ap (λ (x : ℕ). value t size x m e) pd
    ∙ ap (λ (x : ℕ). value t size a.1 x e) pm ∙ ap (λ (x : ℕ). value t size a.1 (unsigned_abs b.0) x) pe
    ∙ ap checked_fraction (product-sizes a b)

pub quotient-steps : (a b : Fraction) (s : Bool) (n d m e : ℕ) (answer : Option Fraction) → 0 < b.1 → s ≡ signs_differ a.0 b.0
    → n ≡ unsigned_abs a.0 → d ≡ a.1 → m ≡ b.1 → e ≡ unsigned_abs b.0
    → answer ≡ checked_fraction (lowest_terms (signed s (n * m)) (d * e)) → answer ≡ checked_fraction_quotient a b
quotient-steps a b s n d m e answer some ps pn pd pm pe is =
    let value : Bool → ℕ → ℕ → ℕ → ℕ → Option Fraction = λ s n d m e. checked_fraction (lowest_terms (signed s (n * m)) (d * e)) in
    let size = unsigned_abs a.0 in
    let t = signs_differ a.0 b.0 in
    is ∙ ap (λ (x : Bool). value x n d m e) ps ∙ ap (λ (x : ℕ). value t x d m e) pn ∙ ap (λ (x : ℕ). value t size x m e) pd
    ∙ ap (λ (x : ℕ). value t size a.1 x e) pm ∙ ap (λ (x : ℕ). value t size a.1 b.1 x) pe
    ∙ ap checked_fraction (quotient-sizes a b some)

bits_zero : (z : ℤ) → FitsSigned w128 z → cast_unsigned w128 z ≡ 0 → z ≡ pos 0
bits_zero (pos n) f e = ap pos e
bits_zero (negsuc n) f e = absurd (omega (arith, f.sfits))

pub zero-tells : (n : ℤ) (d : ℕ) (r : Fraction) → IsFraction (n, d) → (n, d) ≡ r
    → (IsTrue (nat_eq (cast_unsigned w128 n) 0)) ↔ (r ≡ whole (pos 0))
zero-tells n d r h e = (
  λ t. sym e ∙ num-zero (n, d) h.lowest (bits_zero n h.fits (eqb-true (cast_unsigned w128 n) 0 t)),
  λ z. eq-eqb (cast_unsigned w128 n) 0 (ap (λ (q : Fraction). cast_unsigned w128 q.0) (e ∙ z)),
)

-- let n = |num| and d = |den| ≠ 0, and let s be true if and only if the signs of num and den differ. Then
-- `checked_fraction_of num den` is n/d in lowest terms, with the sign - if s is true, or None if that fraction does not fit
-- in 128 bits.
pub new-steps : (num den : ℤ) (s : Bool) (n d : ℕ) (answer : Option Fraction) → (cast_unsigned w128 den ≡ 0 → ⊥) → s ≡ signs_differ num den
    → n ≡ unsigned_abs num → d ≡ unsigned_abs den → answer ≡ checked_fraction (lowest_terms (signed s n) d) → answer ≡ checked_fraction_of num den
new-steps num den s n d answer other ps pn pd is =
    let value : Bool → ℕ → ℕ → Option Fraction = λ s n d. checked_fraction (lowest_terms (signed s n) d) in
    is ∙ ap (λ (x : Bool). value x n d) ps ∙ ap (λ (x : ℕ). value (signs_differ num den) x d) pn ∙ ap (λ (x : ℕ). value (signs_differ num den) (unsigned_abs num) x) pd
    ∙ checked_fraction_of-sizes num den (λ e. other (ap (cast_unsigned w128) e))

pub checked_fraction_of-held : (num den : ℤ) → IfSome (checked_fraction_of num den) IsFraction
checked_fraction_of-held num den = by (int_eq den (pos 0)) refl
  where
    by : (t : Bool) → int_eq den (pos 0) ≡ t → IfSome (cond t None (checked_fraction_quotient (whole num) (whole den))) IsFraction
    by true e = tt
    by false e =
        let other : whole den ≢ whole (pos 0) = λ z. both_ways (int_eq den (pos 0)) e ((Decides-int_eq den (pos 0)).1 (ap (λ (r : Fraction). r.0) z)) in
        let l = reciprocal-lowest (whole den) (InLowestTerms-whole den) other in
        checked_fraction-held (fraction_quotient (whole num) (whole den))
        (Stands-lowest_terms (num *ℤ (reciprocal (whole den)).0) (1 * (reciprocal (whole den)).1) (mul-pos (omega arith) l.positive)).lowest

pub refused_size : (z : ℤ) → checked_i128 z ≡ None → 2 ^ 127 ≤ nat_abs z
refused_size (pos n) e = by (cases_lt n (2 ^ 127))
  where
    by : (n < 2 ^ 127) ⊎ (2 ^ 127 ≤ n) → 2 ^ 127 ≤ n
    by (inl l) = absurd (let some = where_fits-true (nat_lt n (2 ^ 127)) (pos n) (lt-ltb n (2 ^ 127) l) in let none : where_fits (nat_lt n (2 ^ 127)) (pos n) ≡ None = e in cc)
    by (inr l) = l
refused_size (negsuc n) e = by (cases_lt n (2 ^ 127))
  where
    by : (n < 2 ^ 127) ⊎ (2 ^ 127 ≤ n) → 2 ^ 127 ≤ nat_abs (negsuc n)
    by (inl l) = absurd (let some = where_fits-true (nat_lt n (2 ^ 127)) (negsuc n) (lt-ltb n (2 ^ 127) l) in let none : where_fits (nat_lt n (2 ^ 127)) (negsuc n) ≡ None = e in cc)
    by (inr l) = omega (arith, ints)
