-- Arithmetic of fractions. A fraction in lowest terms equals n/d (`Stands`) if its numerator times d is n times its
-- denominator; two fractions in lowest terms that equal the same quotient are the same.
use Rattle.std.proofs.Common.{◌≡◌, ℕ, zero, suc, ◌*◌, ◌/◌, ◌<◌, subst, sym, refl, ap, ◌∙◌}
use Rattle.std.proofs.Common.{arith, ℤ, pos, negsuc, ◌+ℤ◌, ◌*ℤ◌, neg_ℤ, unsigned_abs, int_div}
use Rattle.std.specs.Int.{IsGcd, ◌∣◌}
use Rattle.std.proofs.lemmas.Nat.Gcd.{IsGcd-swap, dvd_antisymm}
use Rattle.std.proofs.lemmas.Int.{ints, unsigned_abs-mul}
use native.Mathlib.Nat.{div-mul_cancel, dvd-mul_left, mul-pos, mul_comm}
use Rattle.sym_model.proofs.Ring.{ring, negation-product, product_assoc}
use Rattle.sym_model.specs.Expansion.{Fraction}
use Rattle.fraction_laws.specs.Fractions.{whole, InLowestTerms, greatest_common_divisor, lowest_terms}
use Rattle.fraction_laws.specs.Fractions.{fraction_sum, fraction_product, fraction_negation}
use Rattle.fraction_laws.proofs.Divisors.{IsGcd-greatest, divisor_positive, coprime_without}
use Rattle.fraction_laws.proofs.Divisors.{coprime-one, divides_other_factor, quotient_positive}
use Rattle.sym_model.proofs.Integers.{product_cancel}

-- ---- integers and their absolute values

pub unsigned_abs-negation : (z : ℤ) → unsigned_abs (neg_ℤ z) ≡ unsigned_abs z
unsigned_abs-negation (pos zero) = refl
unsigned_abs-negation (pos (suc n)) = refl
unsigned_abs-negation (negsuc n) = refl

pub unsigned_abs-quotient : (n : ℤ) (g : ℕ) → unsigned_abs (int_div n (pos g)) ≡ unsigned_abs n / g
unsigned_abs-quotient (pos n) g = refl
unsigned_abs-quotient (negsuc n) g = unsigned_abs-negation (pos (suc n / g))

pub quotient_times : (n : ℤ) (g : ℕ) → g ∣ unsigned_abs n → int_div n (pos g) *ℤ pos g ≡ n
quotient_times (pos n) g h = ap pos (div-mul_cancel g h)
quotient_times (negsuc n) g h =
    negation-product (pos (suc n / g)) (pos g) ∙ ap (λ (m : ℕ). neg_ℤ (pos m)) (div-mul_cancel g h)

-- ---- a fraction in lowest terms is determined by its numerator and denominator

pub same_parts : (r s : Fraction) → r.0 ≡ s.0 → r.1 ≡ s.1 → r ≡ s
same_parts r s e f =
    let with_den : ℕ → Fraction = λ d. (s.0, d) in
    let with_num : ℤ → Fraction = λ n. (n, r.1) in
    ap with_num e ∙ ap with_den f

den_divides : (r s : Fraction) → InLowestTerms r → r.0 *ℤ pos s.1 ≡ s.0 *ℤ pos r.1 → r.1 ∣ s.1
den_divides r s l e =
    let sizes : unsigned_abs r.0 * s.1 ≡ unsigned_abs s.0 * r.1 =
    sym (unsigned_abs-mul r.0 (pos s.1)) ∙ ap unsigned_abs e ∙ unsigned_abs-mul s.0 (pos r.1) in
    divides_other_factor r.1 (unsigned_abs r.0) s.1 (IsGcd-swap (unsigned_abs r.0) r.1 1 l.coprime)
    (subst (λ (n : ℕ). r.1 ∣ n) (sym sizes) (dvd-mul_left r.1 (unsigned_abs s.0)))

pub same_fraction : (r s : Fraction) → InLowestTerms r → InLowestTerms s
    → r.0 *ℤ pos s.1 ≡ s.0 *ℤ pos r.1 → r ≡ s
same_fraction r s l k e =
    let dens : r.1 ≡ s.1 = dvd_antisymm (den_divides r s l e) (den_divides s r k (sym e)) in
    same_parts r s (product_cancel r.0 s.0 s.1 k.positive (e ∙ ap (λ (n : ℕ). s.0 *ℤ pos n) dens))
    dens

-- ---- the fraction r, in lowest terms, equals the quotient n/d (`Stands`)

pub record Stands (r : Fraction) (n : ℤ) (d : ℕ) : Type 0 where
  pub lowest : InLowestTerms r
  pub positive : 0 < d
  pub is : r.0 *ℤ pos d ≡ n *ℤ pos r.1

pub Stands-itself : (r : Fraction) → InLowestTerms r → Stands r r.0 r.1
Stands-itself r l = record { lowest = l; positive = l.positive; is = refl }

pub InLowestTerms-whole : (z : ℤ) → InLowestTerms (whole z)
InLowestTerms-whole z = record { positive = omega arith; coprime = coprime-one (unsigned_abs z) }

pub Stands-whole : (z : ℤ) → Stands (whole z) z 1
Stands-whole z = Stands-itself (whole z) (InLowestTerms-whole z)

lowest_is : (n q : ℤ) (d e g : ℕ) → q *ℤ pos g ≡ n → e * g ≡ d → q *ℤ pos d ≡ n *ℤ pos e
lowest_is n q d e g a b =
    ap (λ (m : ℕ). q *ℤ pos m) (sym b ∙ mul_comm e g) ∙ sym (product_assoc q (pos g) (pos e))
    ∙ ap (λ z. z *ℤ pos e) a

pub Stands-lowest_terms : (n : ℤ) (d : ℕ) → 0 < d → Stands (lowest_terms n d) n d
unfolding lowest_terms
Stands-lowest_terms n d some =
    let g = greatest_common_divisor (unsigned_abs n) d in
    let is : IsGcd (unsigned_abs n) d g = IsGcd-greatest (unsigned_abs n) d in
    let positive : 0 < g = divisor_positive (unsigned_abs n) d g some is in
    record {
      lowest = record {
        positive = quotient_positive d g some is.1;
        coprime =
            subst (λ (m : ℕ). IsGcd m (d / g) 1) (sym (unsigned_abs-quotient n g))
            (coprime_without (unsigned_abs n) d g positive is);
      };
      positive = some;
      is =
          lowest_is n (int_div n (pos g)) d (d / g) g (quotient_times n g is.0)
          (div-mul_cancel g is.1);
    }

-- if x·d = n·r, y·e = m·s and n·e = m·d, then (x·s)·(d·e) = (y·r)·(d·e); for quotients of integers: if x/r = n/d,
-- y/s = m/e and n/d = m/e, then x/r = y/s
cross : (x s y r n m d e : ℤ) → x *ℤ d ≡ n *ℤ r → y *ℤ e ≡ m *ℤ s → n *ℤ e ≡ m *ℤ d
    → (x *ℤ s) *ℤ (d *ℤ e) ≡ (y *ℤ r) *ℤ (d *ℤ e)
cross x s y r n m d e p q c =
    let first : (x *ℤ s) *ℤ (d *ℤ e) ≡ (x *ℤ d) *ℤ (s *ℤ e) = simp ring in
    let second : (n *ℤ r) *ℤ (s *ℤ e) ≡ (n *ℤ e) *ℤ (r *ℤ s) = simp ring in
    let third : (m *ℤ d) *ℤ (r *ℤ s) ≡ (m *ℤ s) *ℤ (r *ℤ d) = simp ring in
    let fourth : (y *ℤ e) *ℤ (r *ℤ d) ≡ (y *ℤ r) *ℤ (d *ℤ e) = simp ring in
    first ∙ ap (λ z. z *ℤ (s *ℤ e)) p ∙ second ∙ ap (λ z. z *ℤ (r *ℤ s)) c ∙ third
    ∙ ap (λ z. z *ℤ (r *ℤ d)) (sym q) ∙ fourth

pub Stands-same : (r s : Fraction) (n m : ℤ) (d e : ℕ) → Stands r n d → Stands s m e
    → n *ℤ pos e ≡ m *ℤ pos d → r ≡ s
Stands-same r s n m d e p q c =
    same_fraction r s p.lowest q.lowest
    (product_cancel (r.0 *ℤ pos s.1) (s.0 *ℤ pos r.1) (d * e) (mul-pos p.positive q.positive)
    (cross r.0 (pos s.1) s.0 (pos r.1) n m (pos d) (pos e) p.is q.is c))

sum_cross : (t rn rd sn sd td n d m e : ℤ) → t *ℤ (rd *ℤ sd) ≡ (rn *ℤ sd +ℤ sn *ℤ rd) *ℤ td
    → rn *ℤ d ≡ n *ℤ rd → sn *ℤ e ≡ m *ℤ sd
    → (t *ℤ (d *ℤ e)) *ℤ (rd *ℤ sd) ≡ ((n *ℤ e +ℤ m *ℤ d) *ℤ td) *ℤ (rd *ℤ sd)
sum_cross t rn rd sn sd td n d m e a p q =
    let first : (t *ℤ (d *ℤ e)) *ℤ (rd *ℤ sd) ≡ (t *ℤ (rd *ℤ sd)) *ℤ (d *ℤ e) = simp ring in
    let second : ((rn *ℤ sd +ℤ sn *ℤ rd) *ℤ td) *ℤ (d *ℤ e)
    ≡ (rn *ℤ d) *ℤ (sd *ℤ (e *ℤ td)) +ℤ (sn *ℤ e) *ℤ (rd *ℤ (d *ℤ td)) =
    simp ring (omega (arith, ints)) in
    let third : (n *ℤ rd) *ℤ (sd *ℤ (e *ℤ td)) +ℤ (m *ℤ sd) *ℤ (rd *ℤ (d *ℤ td))
    ≡ ((n *ℤ e +ℤ m *ℤ d) *ℤ td) *ℤ (rd *ℤ sd) = simp ring (omega (arith, ints)) in
    first ∙ ap (λ z. z *ℤ (d *ℤ e)) a ∙ second
    ∙ ap (λ z. z *ℤ (sd *ℤ (e *ℤ td)) +ℤ (sn *ℤ e) *ℤ (rd *ℤ (d *ℤ td))) p
    ∙ ap (λ z. (n *ℤ rd) *ℤ (sd *ℤ (e *ℤ td)) +ℤ z *ℤ (rd *ℤ (d *ℤ td))) q ∙ third

pub Stands-sum : (r s : Fraction) (n m : ℤ) (d e : ℕ) → Stands r n d → Stands s m e
    → Stands (fraction_sum r s) (n *ℤ pos e +ℤ m *ℤ pos d) (d * e)
Stands-sum r s n m d e p q =
    let dens : 0 < r.1 * s.1 = mul-pos p.lowest.positive q.lowest.positive in
    let t = Stands-lowest_terms (r.0 *ℤ pos s.1 +ℤ s.0 *ℤ pos r.1) (r.1 * s.1) dens in
    record {
      lowest = t.lowest;
      positive = mul-pos p.positive q.positive;
      is = product_cancel _ _ (r.1 * s.1) dens
          (sum_cross (fraction_sum r s).0 r.0 (pos r.1) s.0 (pos s.1) (pos (fraction_sum r s).1) n
          (pos d) m (pos e) t.is p.is q.is);
    }

product_cross : (t rn rd sn sd td n d m e : ℤ) → t *ℤ (rd *ℤ sd) ≡ (rn *ℤ sn) *ℤ td
    → rn *ℤ d ≡ n *ℤ rd → sn *ℤ e ≡ m *ℤ sd
    → (t *ℤ (d *ℤ e)) *ℤ (rd *ℤ sd) ≡ ((n *ℤ m) *ℤ td) *ℤ (rd *ℤ sd)
product_cross t rn rd sn sd td n d m e a p q =
    let first : (t *ℤ (d *ℤ e)) *ℤ (rd *ℤ sd) ≡ (t *ℤ (rd *ℤ sd)) *ℤ (d *ℤ e) = simp ring in
    let second : ((rn *ℤ sn) *ℤ td) *ℤ (d *ℤ e) ≡ ((rn *ℤ d) *ℤ (sn *ℤ e)) *ℤ td = simp ring in
    let third : ((n *ℤ rd) *ℤ (m *ℤ sd)) *ℤ td ≡ ((n *ℤ m) *ℤ td) *ℤ (rd *ℤ sd) = simp ring in
    first ∙ ap (λ z. z *ℤ (d *ℤ e)) a ∙ second ∙ ap (λ z. (z *ℤ (sn *ℤ e)) *ℤ td) p
    ∙ ap (λ z. ((n *ℤ rd) *ℤ z) *ℤ td) q ∙ third

pub Stands-product : (r s : Fraction) (n m : ℤ) (d e : ℕ) → Stands r n d → Stands s m e
    → Stands (fraction_product r s) (n *ℤ m) (d * e)
Stands-product r s n m d e p q =
    let dens : 0 < r.1 * s.1 = mul-pos p.lowest.positive q.lowest.positive in
    let t = Stands-lowest_terms (r.0 *ℤ s.0) (r.1 * s.1) dens in
    record {
      lowest = t.lowest;
      positive = mul-pos p.positive q.positive;
      is = product_cancel _ _ (r.1 * s.1) dens
          (product_cross (fraction_product r s).0 r.0 (pos r.1) s.0 (pos s.1)
          (pos (fraction_product r s).1) n (pos d) m (pos e) t.is p.is q.is);
    }

pub Stands-negation : (r : Fraction) (n : ℤ) (d : ℕ) → Stands r n d
    → Stands (fraction_negation r) (neg_ℤ n) d
Stands-negation r n d p = record {
  lowest =
      record {
        positive = p.lowest.positive;
        coprime =
            subst (λ (m : ℕ). IsGcd m r.1 1) (sym (unsigned_abs-negation r.0)) p.lowest.coprime;
      };
  positive = p.positive;
  is = negation-product r.0 (pos d) ∙ ap neg_ℤ p.is ∙ sym (negation-product n (pos r.1));
}
