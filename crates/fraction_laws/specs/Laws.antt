-- The laws of rings and fields for the values of a type A of scalars: `value a` is the fraction that is the value of the
-- scalar a, and the laws are stated for the scalars that satisfy `held`.
use Rattle.std.specs.Prelude.{◌≡◌, ◌≢◌, ℕ, ◌*◌, ◌<◌, pos, ◌+ℤ◌, ◌*ℤ◌}
use Rattle.std.specs.Int.{◌∣◌}
use Rattle.sym_model.specs.Expansion.{Fraction}
use Rattle.fraction_laws.specs.Fractions.{whole, scaled, fraction_sum, fraction_difference}
use Rattle.fraction_laws.specs.Fractions.{fraction_product, fraction_negation, fraction_quotient}

-- the laws of sums of values: sums commute and associate, 0 is neutral, and, for a common denominator d of a and b,
-- (a + b)·d = a·d + b·d as integers
pub record SumLaws {A : Type 0} (held : A → Type 0) (value : A → Fraction) : Type 0 where
  pub commutes : (a b : A) → fraction_sum (value a) (value b) ≡ fraction_sum (value b) (value a)
  pub associates : (a b c : A) → held a → held b → held c
      → fraction_sum (fraction_sum (value a) (value b)) (value c)
      ≡ fraction_sum (value a) (fraction_sum (value b) (value c))
  pub zero_is_neutral : (a : A) → held a → fraction_sum (value a) (whole (pos 0)) ≡ value a
  pub cleared : (d : ℕ) (a b : A) → held a → held b → 0 < d → (value a).1 ∣ d → (value b).1 ∣ d
      → ((fraction_sum (value a) (value b)).1 ∣ d)
      × (scaled d (fraction_sum (value a) (value b)) ≡ scaled d (value a) +ℤ scaled d (value b))

-- the laws of rings for values: products commute, associate and distribute over sums; 1 is neutral; a + (-a) = 0 and
-- a - b = a + (-b); and, for a multiple d of the denominator of a and a multiple e of that of b,
-- (a·b)·(d·e) = (a·d)·(b·e) as integers
pub record RingLaws {A : Type 0} (held : A → Type 0) (value : A → Fraction) : Type 0 where
  pub commutes : (a b : A) → fraction_product (value a) (value b)
      ≡ fraction_product (value b) (value a)
  pub associates : (a b c : A) → held a → held b → held c
      → fraction_product (fraction_product (value a) (value b)) (value c)
      ≡ fraction_product (value a) (fraction_product (value b) (value c))
  pub one_is_neutral : (a : A) → held a → fraction_product (value a) (whole (pos 1)) ≡ value a
  pub distributes : (a b c : A) → held a → held b → held c
      → fraction_product (value a) (fraction_sum (value b) (value c))
      ≡ fraction_sum (fraction_product (value a) (value b))
      (fraction_product (value a) (value c))
  pub negation_cancels : (a : A) → held a
      → fraction_sum (value a) (fraction_negation (value a)) ≡ whole (pos 0)
  pub difference_adds_negation : (a b : A) → held a → held b
      → fraction_difference (value a) (value b)
      ≡ fraction_sum (value a) (fraction_negation (value b))
  pub cleared : (d e : ℕ) (a b : A) → held a → held b → 0 < d → 0 < e → (value a).1 ∣ d
      → (value b).1 ∣ e
      → ((fraction_product (value a) (value b)).1 ∣ d * e)
      × (scaled (d * e) (fraction_product (value a) (value b))
      ≡ scaled d (value a) *ℤ scaled e (value b))

-- the law of fields for values: (a/b)·b = a, if b is not 0
pub record FieldLaws {A : Type 0} (held : A → Type 0) (value : A → Fraction) : Type 0 where
  pub quotient_cancels : (a b : A) → held a → held b → value b ≢ whole (pos 0)
      → fraction_product (fraction_quotient (value a) (value b)) (value b) ≡ value a
