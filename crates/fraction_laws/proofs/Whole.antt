-- Integers as fractions, and the laws of two types of scalars: `Int`, the integers of 128 bits with a sign, and `Count`,
-- the natural numbers below 2^128.
use Rattle.std.proofs.Common.{◌≡◌, ℕ, ◌+◌, ◌*◌, ◌<◌, ◌≤◌, ◌^◌, sym, refl, ap, ◌∙◌, subst, arith, ℤ}
use Rattle.std.proofs.Common.{pos, negsuc, ◌+ℤ◌, ◌-ℤ◌, ◌*ℤ◌, neg_ℤ, unsigned_abs, Bool, true, false}
use Rattle.std.proofs.Common.{FitsSigned, Option, Some, IsSome, IfSome, nat_lt}
use Rattle.std.specs.Int.{w128}
use Rattle.std.proofs.lemmas.Int.{ints, unsigned_abs-mul, fits_signed_from_abs}
use Rattle.std.proofs.lemmas.Bool.{ltb-true, lt-ltb, both_ways}
use lib.IntN.{+ℤ_idl, +ℤ_idr}
use native.Mathlib.Nat.{div-one, le-mul_of_pos_right, mul-le-mul}
use Rattle.sym_model.proofs.Ring.{ring}
use Rattle.sym_model.specs.Expansion.{Fraction}
use Rattle.fraction_laws.specs.Fractions.{whole, whole_count, fraction_sum, fraction_difference}
use Rattle.fraction_laws.specs.Fractions.{fraction_product, fraction_negation}
use Rattle.fraction_laws.specs.Room.{magnitude, HasRoomForSum, HasRoomForProduct}
use Rattle.sym_model.specs.Canonical.{fits_128_bits}
use Rattle.fraction_laws.specs.Checked.{where_fits, checked_i128, checked_u128}
use Rattle.fraction_laws.specs.Answers.{AnswersSum, AnswersDifference, AnswersProduct}
use Rattle.fraction_laws.specs.Answers.{AnswersNegation}
use Rattle.fraction_laws.specs.Laws.{SumLaws, RingLaws}
use Rattle.fraction_laws.proofs.Fractions.{InLowestTerms-whole, Stands-same, Stands-whole}
use Rattle.fraction_laws.proofs.Fractions.{Stands-sum, Stands-product}
use Rattle.fraction_laws.proofs.FractionLaws.{sum_laws, ring_laws, difference-is}

-- ---- the function `where_fits`, which gives a value if a test is true

pub where_fits-true : {A : Type 0} (t : Bool) (x : A) → t ≡ true → where_fits t x ≡ Some x
where_fits-true true x e = refl
where_fits-true false x e = absurd (both_ways false refl e)

pub IfSome-where_fits : {A : Type 0} (t : Bool) (x : A) (P : A → Type 0) → (t ≡ true → P x)
    → IfSome (where_fits t x) P
IfSome-where_fits true x P h = h refl
IfSome-where_fits false x P h = tt

pub IsSome-where_fits : {A : Type 0} (t : Bool) (x : A) → t ≡ true → IsSome (where_fits t x)
IsSome-where_fits true x e = refl
IsSome-where_fits false x e = absurd (both_ways false refl e)

pub fitted : {A : Type 0} (t : Bool) (x s : A) → where_fits t x ≡ Some s → s ≡ x
fitted true x s e = cc
fitted false x s e = cc

pub whole_fitted : (z s : ℤ) → checked_i128 z ≡ Some s → s ≡ z
whole_fitted z = fitted (fits_128_bits z) z

pub count_fitted : (n s : ℕ) → checked_u128 n ≡ Some s → s ≡ n
count_fitted n = fitted (nat_lt n (2 ^ 128)) n

-- ---- integers that fit in 128 bits with a sign, natural numbers below 2^128, and the functions that test this

pub fits_from_test : (z : ℤ) → fits_128_bits z ≡ true → FitsSigned w128 z
fits_from_test (pos n) t = let small : n < 2 ^ 127 = ltb-true n (2 ^ 127) t in omega (arith, ints)
fits_from_test (negsuc n) t = let small : n < 2 ^ 127 = ltb-true n (2 ^ 127) t in
    omega (arith, ints)

pub test_from_fits : (z : ℤ) → FitsSigned w128 z → fits_128_bits z ≡ true
test_from_fits (pos n) f = lt-ltb n (2 ^ 127) (f.sfits)
test_from_fits (negsuc n) f = lt-ltb n (2 ^ 127) (f.sfits)

pub checked_i128-held : (z : ℤ) → IfSome (checked_i128 z) (FitsSigned w128)
checked_i128-held z = IfSome-where_fits (fits_128_bits z) z (FitsSigned w128) (fits_from_test z)

pub checked_u128-held : (n : ℕ) → IfSome (checked_u128 n) (λ m. m < 2 ^ 128)
checked_u128-held n =
    IfSome-where_fits (nat_lt n (2 ^ 128)) n (λ m. m < 2 ^ 128) (ltb-true n (2 ^ 128))

pub zero_fits_128_bits : FitsSigned w128 (pos 0)
zero_fits_128_bits = omega (arith, ints)

pub one_fits_128_bits : FitsSigned w128 (pos 1)
one_fits_128_bits = omega (arith, ints)

pub zero_fits_u128 : 0 < 2 ^ 128
zero_fits_u128 = omega arith

pub one_fits_u128 : 1 < 2 ^ 128
one_fits_u128 = omega arith

-- ---- integers as fractions with the denominator 1

pub same_whole : (a b : ℤ) → whole a ≡ whole b → a ≡ b
same_whole a b e = ap (λ (r : Fraction). r.0) e

pub sum-whole : (a b : ℤ) → fraction_sum (whole a) (whole b) ≡ whole (a +ℤ b)
sum-whole a b =
    let e : (a *ℤ pos 1 +ℤ b *ℤ pos 1) *ℤ pos 1 ≡ (a +ℤ b) *ℤ (pos 1 *ℤ pos 1) = simp ring in
    Stands-same _ _ _ _ _ _ (Stands-sum (whole a) (whole b) _ _ _ _ (Stands-whole a)
    (Stands-whole b)) (Stands-whole (a +ℤ b)) e

pub difference-whole : (a b : ℤ) → fraction_difference (whole a) (whole b) ≡ whole (a -ℤ b)
difference-whole a b = difference-is (whole a) (whole b) ∙ sum-whole a (neg_ℤ b)

pub product-whole : (a b : ℤ) → fraction_product (whole a) (whole b) ≡ whole (a *ℤ b)
product-whole a b =
    let e : (a *ℤ b) *ℤ pos 1 ≡ (a *ℤ b) *ℤ (pos 1 *ℤ pos 1) = simp ring in
    Stands-same _ _ _ _ _ _ (Stands-product (whole a) (whole b) _ _ _ _ (Stands-whole a)
    (Stands-whole b)) (Stands-whole (a *ℤ b)) e

-- for d > 0, the absolute value of the integer z is at most the absolute value of z times d
abs_le_magnitude : (d : ℕ) (z : ℤ) → 0 < d → unsigned_abs z ≤ magnitude d (whole z)
abs_le_magnitude d z some =
    subst (λ (n : ℕ). unsigned_abs z ≤ unsigned_abs z * n) (sym (div-one d))
    (le-mul_of_pos_right (unsigned_abs z) some)

pub room-sum : (d : ℕ) (a b : ℤ) → HasRoomForSum d (whole a) (whole b)
    → unsigned_abs a + unsigned_abs b < 2 ^ 127
room-sum d a b r =
    omega (arith, abs_le_magnitude d a r.positive, abs_le_magnitude d b r.positive, r.room)

pub room-product : (d e : ℕ) (a b : ℤ) → HasRoomForProduct d e (whole a) (whole b)
    → unsigned_abs a * unsigned_abs b < 2 ^ 127
room-product d e a b r =
    let more : unsigned_abs a * unsigned_abs b ≤ magnitude d (whole a) * magnitude e (whole b) =
    mul-le-mul (abs_le_magnitude d a r.left_positive) (abs_le_magnitude e b r.right_positive) in
    omega (arith, r.room)

-- ---- the laws of `Int`

zero_number : (a : ℤ) → whole a ≡ whole (pos 0) → a ≡ pos 0
zero_number a e = same_whole a (pos 0) e

some_of_fitting : (z w : ℤ) → z ≡ w → FitsSigned w128 w → checked_i128 z ≡ Some w
some_of_fitting z w e f =
    ap checked_i128 e ∙ where_fits-true (fits_128_bits w) w (test_from_fits w f)

pub sum_answers_i128 : (a b : ℤ) → FitsSigned w128 a → FitsSigned w128 b
    → AnswersSum whole a b (checked_i128 (a +ℤ b))
sum_answers_i128 a b f g = record {
  value =
      IfSome-where_fits (fits_128_bits (a +ℤ b)) (a +ℤ b)
      (λ s. whole s ≡ fraction_sum (whole a) (whole b)) (λ _. sym (sum-whole a b));
  zero_left = λ e. some_of_fitting (a +ℤ b) b (ap (λ z. z +ℤ b) (zero_number a e) ∙ +ℤ_idl b) g;
  zero_right = λ e. some_of_fitting (a +ℤ b) a (ap (λ z. a +ℤ z) (zero_number b e) ∙ +ℤ_idr a) f;
  room =
      λ d r. IsSome-where_fits (fits_128_bits (a +ℤ b)) (a +ℤ b)
      (test_from_fits (a +ℤ b) (let small = room-sum d a b r in omega (arith, ints)));
}

pub difference_answers_i128 : (a b : ℤ) → FitsSigned w128 a → FitsSigned w128 b
    → AnswersDifference whole a b (checked_i128 (a -ℤ b))
difference_answers_i128 a b f g = record {
  value =
      IfSome-where_fits (fits_128_bits (a -ℤ b)) (a -ℤ b)
      (λ s. whole s ≡ fraction_difference (whole a) (whole b)) (λ _. sym (difference-whole a b));
  room =
      λ d r. IsSome-where_fits (fits_128_bits (a -ℤ b)) (a -ℤ b)
      (test_from_fits (a -ℤ b) (let small = room-sum d a b r in omega (arith, ints)));
}

pub product_answers_i128 : (a b : ℤ) → FitsSigned w128 a → FitsSigned w128 b
    → AnswersProduct whole a b (checked_i128 (a *ℤ b))
product_answers_i128 a b f g = record {
  value =
      IfSome-where_fits (fits_128_bits (a *ℤ b)) (a *ℤ b)
      (λ s. whole s ≡ fraction_product (whole a) (whole b)) (λ _. sym (product-whole a b));
  room = λ d e r. IsSome-where_fits (fits_128_bits (a *ℤ b)) (a *ℤ b)
      (test_from_fits (a *ℤ b) (fits_signed_from_abs w128 (a *ℤ b)
      (subst (λ (n : ℕ). n < 2 ^ 127) (sym (unsigned_abs-mul a b)) (room-product d e a b r))));
}

pub negation_answers_i128 : (a : ℤ) → FitsSigned w128 a
    → AnswersNegation whole a (checked_i128 (neg_ℤ a))
negation_answers_i128 a f = record {
  value =
      IfSome-where_fits (fits_128_bits (neg_ℤ a)) (neg_ℤ a)
      (λ s. whole s ≡ fraction_negation (whole a)) (λ _. refl);
  room = λ r. IsSome-where_fits (fits_128_bits (neg_ℤ a)) (neg_ℤ a)
      (test_from_fits (neg_ℤ a) (let small : unsigned_abs a
      < 2 ^ 127 = omega (arith, abs_le_magnitude 1 a (omega arith), r) in omega (arith, ints)));
}

pub sum_laws_i128 : SumLaws (FitsSigned w128) whole
sum_laws_i128 = sum_laws (FitsSigned w128) whole (λ a _. InLowestTerms-whole a)

pub ring_laws_i128 : RingLaws (FitsSigned w128) whole
ring_laws_i128 = ring_laws (FitsSigned w128) whole (λ a _. InLowestTerms-whole a)

-- ---- the laws of `Count`

pub same_count : (a b : ℕ) → whole_count a ≡ whole_count b → a ≡ b
same_count a b e = ap unsigned_abs (same_whole (pos a) (pos b) e)

some_of_small : (n m : ℕ) → n ≡ m → m < 2 ^ 128 → checked_u128 n ≡ Some m
some_of_small n m e h =
    ap checked_u128 e ∙ where_fits-true (nat_lt m (2 ^ 128)) m (lt-ltb m (2 ^ 128) h)

pub sum_answers_u128 : (a b : ℕ) → a < 2 ^ 128 → b < 2 ^ 128
    → AnswersSum whole_count a b (checked_u128 (a + b))
sum_answers_u128 a b f g = record {
  value =
      IfSome-where_fits (nat_lt (a + b) (2 ^ 128)) (a + b)
      (λ s. whole_count s ≡ fraction_sum (whole_count a) (whole_count b))
      (λ _. sym (sum-whole (pos a) (pos b)));
  zero_left = λ e. let none : a ≡ 0 = same_count a 0 e in some_of_small (a + b) b (omega arith) g;
  zero_right = λ e. let none : b ≡ 0 = same_count b 0 e in some_of_small (a + b) a (omega arith) f;
  room = λ d r. IsSome-where_fits (nat_lt (a + b) (2 ^ 128)) (a + b)
      (lt-ltb (a + b) (2 ^ 128) (let small : a + b < 2 ^ 127 = room-sum d (pos a) (pos b) r in
      omega arith));
}

pub sum_laws_u128 : SumLaws (λ n. n < 2 ^ 128) whole_count
sum_laws_u128 = sum_laws (λ n. n < 2 ^ 128) whole_count (λ a _. InLowestTerms-whole (pos a))

-- ---- the results of the checked operations of `Int` and `Count`

pub sum_answers_i128-from : (a b : ℤ) (answer : Option ℤ) → FitsSigned w128 a → FitsSigned w128 b
    → answer ≡ checked_i128 (a +ℤ b) → AnswersSum whole a b answer
sum_answers_i128-from a b answer f g e =
    subst (AnswersSum whole a b) (sym e) (sum_answers_i128 a b f g)

pub difference_answers_i128-from : (a b : ℤ) (answer : Option ℤ) → FitsSigned w128 a
    → FitsSigned w128 b → answer ≡ checked_i128 (a -ℤ b) → AnswersDifference whole a b answer
difference_answers_i128-from a b answer f g e =
    subst (AnswersDifference whole a b) (sym e) (difference_answers_i128 a b f g)

pub product_answers_i128-from : (a b : ℤ) (answer : Option ℤ) → FitsSigned w128 a
    → FitsSigned w128 b → answer ≡ checked_i128 (a *ℤ b) → AnswersProduct whole a b answer
product_answers_i128-from a b answer f g e =
    subst (AnswersProduct whole a b) (sym e) (product_answers_i128 a b f g)

pub sum_answers_u128-from : (a b : ℕ) (answer : Option ℕ) → a < 2 ^ 128 → b < 2 ^ 128
    → answer ≡ checked_u128 (a + b) → AnswersSum whole_count a b answer
sum_answers_u128-from a b answer f g e =
    subst (AnswersSum whole_count a b) (sym e) (sum_answers_u128 a b f g)
