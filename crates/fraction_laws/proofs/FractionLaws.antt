-- Fractions in lowest terms satisfy the laws of a field. Each value of a scalar type (the type of the coefficients) denotes a fraction; if these
-- fractions are in lowest terms, they satisfy the same laws.
use Rattle.std.proofs.Common.{◌≡◌, ◌≢◌, ℕ, zero, suc, ◌*◌, ◌<◌, sym, refl, ap, ◌∙◌, arith, ℤ, pos}
use Rattle.std.proofs.Common.{negsuc, ◌+ℤ◌, ◌*ℤ◌, neg_ℤ, unsigned_abs}
use Rattle.std.specs.Int.{IsGcd}
use Rattle.std.proofs.lemmas.Nat.Gcd.{IsGcd-swap}
use Rattle.std.proofs.lemmas.Int.{ints}
use native.Mathlib.Nat.{zero-mul, mul_comm}
use lib.IntN.{+ℤ_comm, *ℤ_comm, neg_ℤ-neg_ℤ}
use Rattle.sym_model.proofs.Ring.{ring, negation-product}
use Rattle.sym_model.specs.Expansion.{Fraction}
use Rattle.fraction_laws.specs.Fractions.{whole, InLowestTerms, lowest_terms, fraction_sum}
use Rattle.fraction_laws.specs.Fractions.{fraction_difference, fraction_product, fraction_negation}
use Rattle.fraction_laws.specs.Fractions.{fraction_quotient, reciprocal, turned_over}
use Rattle.fraction_laws.specs.Laws.{SumLaws, RingLaws, FieldLaws}
use Rattle.fraction_laws.proofs.Cleared.{sum-cleared, product-cleared}
use Rattle.fraction_laws.proofs.Fractions.{Stands-same, Stands-itself, Stands-whole, Stands-sum}
use Rattle.fraction_laws.proofs.Fractions.{Stands-product, Stands-negation}

-- ---- sums of fractions commute and associate, with 0 as neutral element

pub sum_comm : (a b : Fraction) → fraction_sum a b ≡ fraction_sum b a
sum_comm a b =
    let join : ℤ → ℕ → Fraction = lowest_terms in
    ap (λ (n : ℤ). join n (a.1 * b.1)) (+ℤ_comm (a.0 *ℤ pos b.1) (b.0 *ℤ pos a.1))
    ∙ ap (λ (d : ℕ). join (b.0 *ℤ pos a.1 +ℤ a.0 *ℤ pos b.1) d) (omega arith)

sum_assoc_cross : (an ad bn bd cn cd : ℤ)
    → ((an *ℤ bd +ℤ bn *ℤ ad) *ℤ cd +ℤ cn *ℤ (ad *ℤ bd)) *ℤ (ad *ℤ (bd *ℤ cd))
    ≡ (an *ℤ (bd *ℤ cd) +ℤ (bn *ℤ cd +ℤ cn *ℤ bd) *ℤ ad) *ℤ ((ad *ℤ bd) *ℤ cd)
sum_assoc_cross an ad bn bd cn cd = simp ring (omega (arith, ints))

pub sum_assoc : (a b c : Fraction) → InLowestTerms a → InLowestTerms b → InLowestTerms c
    → fraction_sum (fraction_sum a b) c ≡ fraction_sum a (fraction_sum b c)
sum_assoc a b c la lb lc =
    let pa = Stands-itself a la in
    let pb = Stands-itself b lb in
    let pc = Stands-itself c lc in
    Stands-same _ _ _ _ _ _
    (Stands-sum (fraction_sum a b) c _ _ _ _ (Stands-sum a b _ _ _ _ pa pb) pc)
    (Stands-sum a (fraction_sum b c) _ _ _ _ pa (Stands-sum b c _ _ _ _ pb pc))
    (sum_assoc_cross a.0 (pos a.1) b.0 (pos b.1) c.0 (pos c.1))

sum_zero_cross : (n d : ℤ) → (n *ℤ pos 1 +ℤ pos 0 *ℤ d) *ℤ d ≡ n *ℤ (d *ℤ pos 1)
sum_zero_cross n d = simp ring (omega (arith, ints))

pub sum-zero : (a : Fraction) → InLowestTerms a → fraction_sum a (whole (pos 0)) ≡ a
sum-zero a la =
    let pa = Stands-itself a la in
    Stands-same _ _ _ _ _ _ (Stands-sum a (whole (pos 0)) _ _ _ _ pa (Stands-whole (pos 0))) pa
    (sum_zero_cross a.0 (pos a.1))

sum_negation_cross : (n d : ℤ) → (n *ℤ d +ℤ neg_ℤ n *ℤ d) *ℤ pos 1 ≡ pos 0 *ℤ (d *ℤ d)
sum_negation_cross n d = simp ring (omega (arith, ints))

pub sum-negation : (a : Fraction) → InLowestTerms a
    → fraction_sum a (fraction_negation a) ≡ whole (pos 0)
sum-negation a la =
    let pa = Stands-itself a la in
    Stands-same _ _ _ _ _ _ (Stands-sum a (fraction_negation a) _ _ _ _ pa
    (Stands-negation a _ _ pa)) (Stands-whole (pos 0)) (sum_negation_cross a.0 (pos a.1))

pub difference-is : (a b : Fraction)
    → fraction_difference a b ≡ fraction_sum a (fraction_negation b)
difference-is a b =
    let join : ℤ → ℕ → Fraction = lowest_terms in
    ap (λ (n : ℤ). join (a.0 *ℤ pos b.1 +ℤ n) (a.1 * b.1)) (sym (negation-product b.0 (pos a.1)))

-- ---- products of fractions commute, associate and distribute over sums

pub product_comm : (a b : Fraction) → fraction_product a b ≡ fraction_product b a
product_comm a b =
    let join : ℤ → ℕ → Fraction = lowest_terms in
    ap (λ (n : ℤ). join n (a.1 * b.1)) (*ℤ_comm a.0 b.0)
    ∙ ap (λ (d : ℕ). join (b.0 *ℤ a.0) d) (omega arith)

product_assoc_cross : (an ad bn bd cn cd : ℤ)
    → ((an *ℤ bn) *ℤ cn) *ℤ (ad *ℤ (bd *ℤ cd)) ≡ (an *ℤ (bn *ℤ cn)) *ℤ ((ad *ℤ bd) *ℤ cd)
product_assoc_cross an ad bn bd cn cd = simp ring

pub product_assoc : (a b c : Fraction) → InLowestTerms a → InLowestTerms b → InLowestTerms c
    → fraction_product (fraction_product a b) c ≡ fraction_product a (fraction_product b c)
product_assoc a b c la lb lc =
    let pa = Stands-itself a la in
    let pb = Stands-itself b lb in
    let pc = Stands-itself c lc in
    Stands-same _ _ _ _ _ _
    (Stands-product (fraction_product a b) c _ _ _ _ (Stands-product a b _ _ _ _ pa pb) pc)
    (Stands-product a (fraction_product b c) _ _ _ _ pa (Stands-product b c _ _ _ _ pb pc))
    (product_assoc_cross a.0 (pos a.1) b.0 (pos b.1) c.0 (pos c.1))

product_one_cross : (n d : ℤ) → (n *ℤ pos 1) *ℤ d ≡ n *ℤ (d *ℤ pos 1)
product_one_cross n d = simp ring

pub product-one : (a : Fraction) → InLowestTerms a → fraction_product a (whole (pos 1)) ≡ a
product-one a la =
    let pa = Stands-itself a la in
    Stands-same _ _ _ _ _ _ (Stands-product a (whole (pos 1)) _ _ _ _ pa (Stands-whole (pos 1))) pa
    (product_one_cross a.0 (pos a.1))

distributes_cross : (an ad bn bd cn cd : ℤ)
    → (an *ℤ (bn *ℤ cd +ℤ cn *ℤ bd)) *ℤ ((ad *ℤ bd) *ℤ (ad *ℤ cd))
    ≡ ((an *ℤ bn) *ℤ (ad *ℤ cd) +ℤ (an *ℤ cn) *ℤ (ad *ℤ bd)) *ℤ (ad *ℤ (bd *ℤ cd))
distributes_cross an ad bn bd cn cd = simp ring (omega (arith, ints))

pub distributes : (a b c : Fraction) → InLowestTerms a → InLowestTerms b → InLowestTerms c
    → fraction_product a (fraction_sum b c)
    ≡ fraction_sum (fraction_product a b) (fraction_product a c)
distributes a b c la lb lc =
    let pa = Stands-itself a la in
    let pb = Stands-itself b lb in
    let pc = Stands-itself c lc in
    Stands-same _ _ _ _ _ _
    (Stands-product a (fraction_sum b c) _ _ _ _ pa (Stands-sum b c _ _ _ _ pb pc))
    (Stands-sum (fraction_product a b) (fraction_product a c) _ _ _ _
    (Stands-product a b _ _ _ _ pa pb) (Stands-product a c _ _ _ _ pa pc))
    (distributes_cross a.0 (pos a.1) b.0 (pos b.1) c.0 (pos c.1))

-- ---- quotients of fractions: (a/b)·b = a

turned_over-lowest : (n : ℤ) (d : ℕ) → 0 < d → n ≢ pos 0 → IsGcd (unsigned_abs n) d 1
    → InLowestTerms (turned_over n d)
turned_over-lowest (pos zero) d some other h = absurd (other refl)
turned_over-lowest (pos (suc n)) d some other h =
    record { positive = omega arith; coprime = IsGcd-swap (suc n) d 1 h }
turned_over-lowest (negsuc n) zero some other h = absurd (omega arith)
turned_over-lowest (negsuc n) (suc d) some other h =
    record { positive = omega arith; coprime = IsGcd-swap (suc n) (suc d) 1 h }

-- a fraction in lowest terms with the numerator 0 is the fraction 0
pub num-zero : (a : Fraction) → InLowestTerms a → a.0 ≡ pos 0 → a ≡ whole (pos 0)
num-zero a la e =
    Stands-same a (whole (pos 0)) _ _ _ _ (Stands-itself a la) (Stands-whole (pos 0))
    (ap (λ z. z *ℤ pos 1) e ∙ sym (ap pos (zero-mul a.1)))

pub reciprocal-lowest : (a : Fraction) → InLowestTerms a → a ≢ whole (pos 0)
    → InLowestTerms (reciprocal a)
reciprocal-lowest a la other =
    turned_over-lowest a.0 a.1 la.positive (λ e. other (num-zero a la e)) la.coprime

turned_over_times : (n : ℤ) (d : ℕ) → (turned_over n d).0 *ℤ n ≡ pos (turned_over n d).1 *ℤ pos d
turned_over_times (pos n) d = *ℤ_comm (pos d) (pos n)
turned_over_times (negsuc n) d =
    negation-product (pos d) (negsuc n) ∙ neg_ℤ-neg_ℤ (pos (d * suc n))
    ∙ ap pos (mul_comm d (suc n))

quotient_cross : (an ad bn bd rn rd : ℤ) → rn *ℤ bn ≡ rd *ℤ bd
    → ((an *ℤ rn) *ℤ bn) *ℤ ad ≡ an *ℤ ((ad *ℤ rd) *ℤ bd)
quotient_cross an ad bn bd rn rd e =
    let first : ((an *ℤ rn) *ℤ bn) *ℤ ad ≡ an *ℤ (ad *ℤ (rn *ℤ bn)) = simp ring in
    let second : an *ℤ (ad *ℤ (rd *ℤ bd)) ≡ an *ℤ ((ad *ℤ rd) *ℤ bd) = simp ring in
    first ∙ ap (λ z. an *ℤ (ad *ℤ z)) e ∙ second

pub quotient_cancels : (a b : Fraction) → InLowestTerms a → InLowestTerms b → b ≢ whole (pos 0)
    → fraction_product (fraction_quotient a b) b ≡ a
quotient_cancels a b la lb other =
    let pa = Stands-itself a la in
    let pr = Stands-itself (reciprocal b) (reciprocal-lowest b lb other) in
    Stands-same _ _ _ _ _ _
    (Stands-product (fraction_quotient a b) b _ _ _ _
    (Stands-product a (reciprocal b) _ _ _ _ pa pr) (Stands-itself b lb)) pa
    (quotient_cross a.0 (pos a.1) b.0 (pos b.1) (reciprocal b).0 (pos (reciprocal b).1)
    (turned_over_times b.0 b.1))

-- ---- the laws of a type of scalars whose values are in lowest terms

pub sum_laws : {A : Type 0} (held : A → Type 0) (value : A → Fraction)
    → ((a : A) → held a → InLowestTerms (value a)) → SumLaws held value
sum_laws held value low = record {
  commutes = λ a b. sum_comm (value a) (value b);
  associates = λ a b c p q r. sum_assoc (value a) (value b) (value c) (low a p) (low b q) (low c r);
  zero_is_neutral = λ a p. sum-zero (value a) (low a p);
  cleared = λ d a b p q some u v. sum-cleared d (value a) (value b) (low a p) (low b q) some u v;
}

pub ring_laws : {A : Type 0} (held : A → Type 0) (value : A → Fraction)
    → ((a : A) → held a → InLowestTerms (value a)) → RingLaws held value
ring_laws held value low = record {
  commutes = λ a b. product_comm (value a) (value b);
  associates =
      λ a b c p q r. product_assoc (value a) (value b) (value c) (low a p) (low b q) (low c r);
  one_is_neutral = λ a p. product-one (value a) (low a p);
  distributes =
      λ a b c p q r. distributes (value a) (value b) (value c) (low a p) (low b q) (low c r);
  negation_cancels = λ a p. sum-negation (value a) (low a p);
  difference_adds_negation = λ a b p q. difference-is (value a) (value b);
  cleared =
      λ d e a b p q sd se u v. product-cleared d e (value a) (value b) (low a p)
      (low b q) sd se u v;
}

pub field_laws : {A : Type 0} (held : A → Type 0) (value : A → Fraction)
    → ((a : A) → held a → InLowestTerms (value a)) → FieldLaws held value
field_laws held value low = record {
  quotient_cancels =
      λ a b p q other. quotient_cancels (value a) (value b) (low a p) (low b q) other;
}
