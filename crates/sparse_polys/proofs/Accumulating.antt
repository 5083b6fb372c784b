-- The product of two scalars and a number (a count) is added to a list of terms with fractions as coefficients. The lemmas say by which integers this
-- increases the coefficients, if the list is multiplied by a common denominator, and on which condition the sum overflows.
use Rattle.std.proofs.Common.{◌≡◌, ℕ, zero, suc, ◌*◌, ◌^◌, ◌<◌, ◌≤◌, Bool, true, List, [], ◌∷◌, sym, ◌∙◌, ap, ap₂, subst, refl, arith, ℤ, pos, ◌*ℤ◌, unsigned_abs, rules}
use Rattle.std.specs.Prelude.{nat_eq, nat_abs, None}
use Rattle.std.specs.Int.{◌∣◌}
use Rattle.std.specs.Cmp.Lexicographic.{pointwise, nat_list_eq_equiv}
use Rattle.std.proofs.lemmas.Int.{ints, unsigned_abs-mul}
use Rattle.std.proofs.lemmas.Slice.Eq.{bytes_eq-Decides}
use Rattle.sym_model.specs.Sum.{Among}
use Rattle.sym_model.proofs.Orders.{is_reduced-tells}
use Rattle.sym_model.specs.Partition.{IsPartition}
use Rattle.sym_model.specs.Expansion.{Fraction, Terms}
use Rattle.sym_model.specs.Canonical.{is_label}
use Rattle.fraction_laws.specs.Fractions.{whole, scaled, InLowestTerms, fraction_product}
use Rattle.fraction_laws.specs.Room.{magnitude}
use Rattle.fraction_laws.specs.Answers.{AnswersProduct}
use Rattle.fraction_laws.proofs.Fractions.{InLowestTerms-whole}
use Rattle.fraction_laws.proofs.Divisors.{quotient_positive}
use Rattle.fraction_laws.proofs.Cleared.{unsigned_abs-scaled, product-cleared}
use Rattle.sparse_polys.specs.Combination.{IsCombination}
use Rattle.linear_combinations.proofs.Labels.{same_partition}
use Rattle.sparse_polys.proofs.Tables.{term-tests}
pub use Rattle.sparse_polys.proofs.ClearedSums.{lowest_at}
use Rattle.sparse_polys.proofs.ClearedSums.{size_scaled}
use Rattle.linear_combinations.proofs.Gains.{overflows_alone}
use Rattle.monomial_laws.specs.ExpressionTerms.{over}
use Rattle.sym_model.proofs.Integers.{nat_abs-product}
use Rattle.monomial_laws.specs.MonomialProduct.{arrangements}
use Rattle.linear_combinations.specs.Gains.{mass_at, scaled as multiple}
use Rattle.linear_combinations.proofs.Masses.{mass_at_scaled}
use Rattle.sparse_polys.specs.MonomialProducts.{product_terms}
use Rattle.sparse_polys.proofs.ProductLists.{terms_mass}
use Rattle.sparse_polys.proofs.Coefficients.{nat_abs-is}
use Rattle.linear_combinations.specs.Cleared.{IsDenominator, AreCleared, GainsCleared}
use Rattle.linear_combinations.specs.Cleared.{OverflowsCleared}
use native.Mathlib.Nat.{mul-le-mul_left, mul-pos, dvd-mul_left}

-- ---- the product of two scalars and a count, times the denominators of the scalars

abbrev one_divides : (1 ∣ 1)
one_divides = dvd-mul_left 1 1

scaled-count : (n : ℕ) → scaled 1 (whole (pos n)) ≡ pos n
scaled-count n = let e : n * 1 ≡ n = omega arith in ap pos e

magnitude-count : (n : ℕ) → magnitude 1 (whole (pos n)) ≡ n
magnitude-count n = omega arith

pub product-value : (d e : ℕ) (a b p c : Fraction) (n : ℕ) → InLowestTerms a → InLowestTerms b → InLowestTerms p
    → p ≡ fraction_product a b → c ≡ fraction_product p (whole (pos n))
    → IsDenominator d a × IsDenominator e b
    → (c.1 ∣ (d * e)) × (scaled (d * e) c ≡ scaled d a *ℤ scaled e b *ℤ pos n)
product-value d e a b p c n la lb lp f g h =
    let some : 0 < d * e = mul-pos h.0.positive h.1.positive in
    let u = product-cleared d e a b la lb h.0.positive h.1.positive h.0.multiple h.1.multiple in
    let pd : p.1 ∣ (d * e) = subst (λ (r : Fraction). r.1 ∣ (d * e)) (sym f) u.0 in
    let v = product-cleared (d * e) 1 p (whole (pos n)) lp (InLowestTerms-whole (pos n)) some (omega arith) pd one_divides in
    let k : (d * e) * 1 ≡ d * e = omega arith in (
      subst (λ (r : Fraction). r.1 ∣ (d * e)) (sym g) (subst (λ m. (fraction_product p (whole (pos n))).1 ∣ m) k v.0),
      ap (scaled (d * e)) g
          ∙ ap (λ m. scaled m (fraction_product p (whole (pos n)))) (sym k)
          ∙ v.1
          ∙ ap₂ ◌*ℤ◌ (ap (scaled (d * e)) f ∙ u.1) (scaled-count n),
    )

-- if d and e are denominators of x and y with d·e < 2^127, and the checked product of x and y gives None, then |d·x|·|e·y| ≥ 2^127
pub product-refused : {R : Type 0} (value : R → Fraction) (x y : R) (d e : ℕ)
    → AnswersProduct value x y None → IsDenominator d (value x) × IsDenominator e (value y)
    → d * e < 2 ^ 127 → 2 ^ 127 ≤ magnitude d (value x) * magnitude e (value y)
product-refused value x y d e answers h small = search rules

size_product : (d e : ℕ) (a b : Fraction) → nat_abs (scaled d a *ℤ scaled e b) ≡ magnitude d a * magnitude e b
size_product d e a b = nat_abs-product (scaled d a) (scaled e b) ∙ ap₂ (λ m n. m * n) (size_scaled d a) (size_scaled e b)

pub Overflows-product : {R : Type 0} (value : R → Fraction) (x y : R) (d e : ℕ)
    → AnswersProduct value x y None → IsDenominator d (value x) × IsDenominator e (value y)
    → d * e < 2 ^ 127
    → (old : Terms (List ℕ)) (k : List ℕ) → OverflowsCleared (pointwise nat_eq) (d * e) old
    ((k, scaled d (value x) *ℤ scaled e (value y)) ∷ [])
Overflows-product value x y d e answers h small old k =
    let l = product-refused value x y d e answers h small in
    let p = size_product d e (value x) (value y) in
    overflows_alone nat_list_eq_equiv same_partition (over (d * e) old) k (scaled d (value x) *ℤ scaled e (value y)) (omega arith)

pub refused-first : {R : Type 0} (value : R → Fraction) (x y : R) (d e n : ℕ)
    → AnswersProduct value x y None → IsDenominator d (value x) × IsDenominator e (value y)
    → d * e < 2 ^ 127 → 0 < n → 2 ^ 127 ≤ magnitude d (value x) * magnitude e (value y) * n
refused-first value x y d e zero answers h small some = absurd (omega arith)
refused-first value x y d e (suc n) answers h small some = search rules

pub refused-second : {R : Type 0} (value : R → Fraction) (x y p w : R) (d e n : ℕ) → InLowestTerms (value x) → InLowestTerms (value y)
    → value p ≡ fraction_product (value x) (value y) → value w ≡ whole (pos n)
    → AnswersProduct value p w None → IsDenominator d (value x) × IsDenominator e (value y)
    → d * e < 2 ^ 127 → 2 ^ 127 ≤ magnitude d (value x) * magnitude e (value y) * n
refused-second value x y p w d e n lx ly f g answers h small =
    let some : 0 < d * e = mul-pos h.0.positive h.1.positive in
    let u = product-cleared d e (value x) (value y) lx ly h.0.positive h.1.positive h.0.multiple
    h.1.multiple in
    let pd : (value p).1 ∣ (d * e) = subst (λ (r : Fraction). r.1 ∣ (d * e)) (sym f) u.0 in
    let wd : (value w).1 ∣ 1 = subst (λ (r : Fraction). r.1 ∣ 1) (sym g) one_divides in
    let k : (d * e) * 1 ≡ d * e = omega arith in
    let l = product-refused value p w (d * e) 1 answers (
      record { positive = some; multiple = pd },
      record
          { positive = omega arith; multiple = wd },
    ) (omega arith) in
    let size : magnitude (d * e) (value p) ≡ magnitude d (value x) * magnitude e (value y) =
    ap (magnitude (d * e)) f ∙ sym (unsigned_abs-scaled (d * e) (fraction_product (value x) (value y))) ∙ ap unsigned_abs u.1
    ∙ unsigned_abs-mul (scaled d (value x)) (scaled e (value y))
    ∙ ap₂ ◌*◌ (unsigned_abs-scaled d (value x)) (unsigned_abs-scaled e (value y)) in
    let one : magnitude 1 (value w) ≡ n = ap (magnitude 1) g ∙ magnitude-count n in
    let both = ap₂ ◌*◌ size one in
    omega arith

-- ---- the product of two scalars and a count, added to a list as one more term

pub at_same : (label : List ℕ) → pointwise nat_eq label label ≡ true
at_same label = (bytes_eq-Decides label label).1 refl

pub Gains-nothing : {is_label : List ℕ → Bool} (q n : ℕ) (z : ℤ) (old : Terms (List ℕ)) (k : List ℕ)
    → n ≡ 0 → AreCleared (pointwise nat_eq) q old
    → GainsCleared (pointwise nat_eq) is_label q old ((k, z *ℤ pos n) ∷ []) old
Gains-nothing q n z old k e cleared = search rules

pub Overflows-count : (d e n : ℕ) (a b : Fraction) (old : Terms (List ℕ)) (k : List ℕ)
    → 2 ^ 127 ≤ magnitude d a * magnitude e b * n
    → OverflowsCleared (pointwise nat_eq) (d * e) old ((k, scaled d a *ℤ scaled e b *ℤ pos n) ∷ [])
Overflows-count d e n a b old k large =
    let p = nat_abs-product (scaled d a *ℤ scaled e b) (pos n) in
    let m = ap (λ i. i * n) (size_product d e a b) in
    overflows_alone nat_list_eq_equiv same_partition (over (d * e) old) k (scaled d a *ℤ scaled e b *ℤ pos n) (omega arith)

-- if m_l·m_r has a coefficient of 2^127 or more, and the scalars a and b with the denominators d and e are not 0, adding d·e·a·b·m_l·m_r to the list
-- d·e·`old` overflows
pub Overflows-many : (d e : ℕ) (a b : Fraction) (old : Terms (List ℕ)) (l r : List ℕ) → 0 < magnitude d a → 0 < magnitude e b
    → (ν : List ℕ) × IsPartition ν × (2 ^ 127 ≤ arrangements l r ν)
    → OverflowsCleared (pointwise nat_eq) (d * e) old
    (multiple (scaled d a *ℤ scaled e b) (product_terms l r))
Overflows-many d e a b old l r some also h =
    let z = scaled d a *ℤ scaled e b in
    let p = size_product d e a b in
    let m = mass_at_scaled (pointwise nat_eq) h.0 z (product_terms l r) in
    let n = terms_mass l r h.0 h.1 in
    let o : 1 ≤ nat_abs z = let x = mul-pos some also in omega arith in
    let k = mul-le-mul_left (mass_at (pointwise nat_eq) h.0 (product_terms l r)) o in
    let w = h.2 in
    (h.0, omega (arith, ints))

pub magnitude-positive : (q : ℕ) (terms : Terms (List ℕ)) (t : List ℕ × Fraction) → IsCombination (pointwise nat_eq) is_label terms → Among t terms
    → 0 < q → t.1.1 ∣ q → 0 < magnitude q t.1
magnitude-positive q terms t is m some h =
    let reduced = (term-tests terms is t m).0 in
    let a = (is_reduced-tells t.1 reduced).nonzero in
    let b = quotient_positive q t.1.1 some h in
    let z = nat_abs-is t.1.0 in
    mul-pos (let u : 0 < unsigned_abs t.1.0 = omega arith in u) b
