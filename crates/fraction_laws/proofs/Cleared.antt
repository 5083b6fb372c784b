-- Fractions with their denominators cleared: a fraction times a multiple of its denominator is an integer.
use Rattle.std.proofs.Common.{◌≡◌, ℕ, ◌*◌, ◌/◌, ◌<◌, sym, ap, ◌∙◌, subst, arith, ℤ, pos, ◌+ℤ◌, ◌*ℤ◌}
use Rattle.std.proofs.Common.{unsigned_abs}
use Rattle.std.specs.Int.{◌∣◌}
use Rattle.std.proofs.lemmas.Nat.Gcd.{IsGcd-swap}
use Rattle.std.proofs.lemmas.Int.{ints, unsigned_abs-mul}
use native.Mathlib.Nat.{div-mul_cancel, dvd-mul_left}
use Rattle.sym_model.proofs.Ring.{ring, product_assoc}
use Rattle.sym_model.specs.Expansion.{Fraction}
use Rattle.fraction_laws.specs.Fractions.{InLowestTerms, scaled, fraction_sum, fraction_product}
use Rattle.fraction_laws.specs.Room.{magnitude}
use Rattle.fraction_laws.proofs.Divisors.{divides_other_factor}
use Rattle.fraction_laws.proofs.Fractions.{Stands, Stands-sum, Stands-product}
use Rattle.sym_model.proofs.Integers.{product_cancel}

pub unsigned_abs-scaled : (d : ℕ) (r : Fraction) → unsigned_abs (scaled d r) ≡ magnitude d r
unsigned_abs-scaled d r = unsigned_abs-mul r.0 (pos (d / r.1))

-- if r is in lowest terms and d > 0 is a multiple of its denominator, then d·r is an integer and r equals (d·r)/d
-- (`Stands`)
pub Stands-scaled : (d : ℕ) (r : Fraction) → InLowestTerms r → 0 < d → r.1 ∣ d
    → Stands r (scaled d r) d
Stands-scaled d r l some h = record {
  lowest = l;
  positive = some;
  is =
      ap (λ (n : ℕ). r.0 *ℤ pos n) (sym (div-mul_cancel r.1 h))
      ∙ sym (product_assoc r.0 (pos (d / r.1)) (pos r.1));
}

-- if r is in lowest terms and equals n/d (`Stands`), then the denominator of r divides d, and d·r is n
pub scaled-Stands : (d : ℕ) (n : ℤ) (r : Fraction) → Stands r n d → (r.1 ∣ d) × (scaled d r ≡ n)
scaled-Stands d n r p =
    let sizes : unsigned_abs r.0 * d ≡ unsigned_abs n * r.1 =
    sym (unsigned_abs-mul r.0 (pos d)) ∙ ap unsigned_abs p.is ∙ unsigned_abs-mul n (pos r.1) in
    let divides : r.1 ∣ d =
    divides_other_factor r.1 (unsigned_abs r.0) d
    (IsGcd-swap (unsigned_abs r.0) r.1 1 p.lowest.coprime)
    (subst (λ (m : ℕ). r.1 ∣ m) (sym sizes) (dvd-mul_left r.1 (unsigned_abs n))) in (
      divides,
      product_cancel (scaled d r) n r.1 p.lowest.positive
          (product_assoc r.0 (pos (d / r.1)) (pos r.1)
          ∙ ap (λ (m : ℕ). r.0 *ℤ pos m) (div-mul_cancel r.1 divides) ∙ p.is),
    )

same_denominator : (x y d t : ℤ) (td : ℤ) → t *ℤ (d *ℤ d) ≡ (x *ℤ d +ℤ y *ℤ d) *ℤ td
    → (t *ℤ d) *ℤ d ≡ ((x +ℤ y) *ℤ td) *ℤ d
same_denominator x y d t td e =
    let first : (t *ℤ d) *ℤ d ≡ t *ℤ (d *ℤ d) = product_assoc t d d in
    let last : (x *ℤ d +ℤ y *ℤ d) *ℤ td ≡ ((x +ℤ y) *ℤ td) *ℤ d = simp ring (omega (arith, ints)) in
    first ∙ e ∙ last

pub sum-cleared : (d : ℕ) (a b : Fraction) → InLowestTerms a → InLowestTerms b → 0 < d → a.1 ∣ d
    → b.1 ∣ d
    → ((fraction_sum a b).1 ∣ d) × (scaled d (fraction_sum a b) ≡ scaled d a +ℤ scaled d b)
sum-cleared d a b la lb some p q =
    let x = scaled d a in
    let y = scaled d b in
    let s = Stands-sum a b x y d d (Stands-scaled d a la some p) (Stands-scaled d b lb some q) in
    scaled-Stands d (x +ℤ y) (fraction_sum a b) (record {
      lowest = s.lowest;
      positive = some;
      is =
          product_cancel _ _ d some
          (same_denominator x y (pos d) (fraction_sum a b).0 (pos (fraction_sum a b).1) s.is);
    })

pub product-cleared : (d e : ℕ) (a b : Fraction) → InLowestTerms a → InLowestTerms b → 0 < d → 0 < e
    → a.1 ∣ d → b.1 ∣ e
    → ((fraction_product a b).1 ∣ d * e)
    × (scaled (d * e) (fraction_product a b) ≡ scaled d a *ℤ scaled e b)
product-cleared d e a b la lb sd se p q =
    scaled-Stands (d * e) (scaled d a *ℤ scaled e b) (fraction_product a b)
    (Stands-product a b (scaled d a) (scaled e b) d e (Stands-scaled d a la sd p)
    (Stands-scaled e b lb se q))
