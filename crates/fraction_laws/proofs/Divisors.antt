-- Common divisors: Euclid's algorithm, Euclid's lemma, and the proof that `greatest_common_divisor` computes the
-- greatest common divisor.
use Rattle.std.proofs.Common.{◌≡◌, ℕ, zero, suc, ◌+◌, ◌*◌, ◌/◌, ◌%◌, ◌<◌, ◌≤◌}
use Rattle.std.proofs.Common.{subst, sym, refl, ap, ◌∙◌, arith}
use Rattle.std.specs.Int.{IsGcd, ◌∣◌}
use Rattle.std.proofs.lemmas.Nat.Gcd.{IsGcd-from_zero, IsGcd-swap, IsGcd-from_mod, same_from_IsGcd}
use Rattle.std.proofs.lemmas.Nat.Gcd.{dvd_trans}
use native.Mathlib.Nat.{dvd-add, dvd-add_iff_right, dvd-mul_left_of_dvd, dvd-mul_right}
use native.Mathlib.Nat.{dvd_of_mul-dvd-mul_right, mul-dvd-mul_right, div-mul_cancel, div-add-mod'}
use native.Mathlib.Nat.{pos_of_dvd_of_pos, one-dvd, mod-lt, one-mul, add-mul, mul_assoc, zero-mul}
use Rattle.sym_model.proofs.GreatestCommonDivisors.{gcd-only, IsGcd-gcd}
use Rattle.fraction_laws.specs.Fractions.{greatest_common_divisor}

-- if a = q·b + r, a greatest common divisor of b and r is also a greatest common divisor of a and b
euclid_step : (a b q r g : ℕ) → a ≡ q * b + r → IsGcd b r g → IsGcd a b g
euclid_step a b q r g e h =
    let divides = λ (d : ℕ) (s : d ∣ b). dvd-mul_left_of_dvd d s q in (
      subst (λ (n : ℕ). g ∣ n) (sym e) (dvd-add g (divides g h.0) h.1),
      h.0,
      λ d p s. h.2 d s ((dvd-add_iff_right d {m = q * b} {n = r} (divides d s)).1
          (subst (λ (n : ℕ). d ∣ n) e p)),
    )

-- a greatest common divisor g of a and b such that, for each c, g·c is a greatest common divisor of a·c and b·c
pub record Scales (a b : ℕ) : Type 0 where
  pub g : ℕ
  pub is : IsGcd a b g
  pub by_factor : (c : ℕ) → IsGcd (a * c) (b * c) (g * c)

euclid_end : (a b : ℕ) → b ≡ 0 → Scales a b
euclid_end a b e = record {
  g = a;
  is = IsGcd-from_zero a b e;
  by_factor = λ c. IsGcd-from_zero (a * c) (b * c) (ap (λ n. n * c) e ∙ zero-mul c);
}

euclid_more : (a b : ℕ) → Scales b (a % b) → Scales a b
euclid_more a b s = record {
  g = s.g;
  is = IsGcd-from_mod a b s.g s.is;
  by_factor = λ c. euclid_step (a * c) (b * c) (a / b) ((a % b) * c) (s.g * c)
      (let e : a ≡ a / b * b + a % b = sym (div-add-mod' a b) in
      ap (λ n. n * c) e ∙ add-mul (a / b * b) (a % b) c
      ∙ ap (λ n. n + (a % b) * c) (mul_assoc (a / b) b c))
      (s.by_factor c);
}

euclid : (f a b : ℕ) → b ≤ f → Scales a b
euclid zero a b h = euclid_end a b (omega arith)
euclid (suc f) a zero h = euclid_end a zero refl
euclid (suc f) a (suc b) h =
    let below : a % suc b < suc b = mod-lt a (omega arith) in
    euclid_more a (suc b) (euclid f (suc b) (a % suc b) (omega arith))

pub scales : (a b : ℕ) → Scales a b
scales a b = euclid b a b (omega arith)

-- ---- coprime numbers: their greatest common divisor is 1

-- Euclid's lemma: if a and b are coprime and a divides b·c, a divides c
pub divides_other_factor : (a b c : ℕ) → IsGcd a b 1 → a ∣ b * c → a ∣ c
divides_other_factor a b c h p =
    let s = scales a b in
    let one : s.g ≡ 1 = same_from_IsGcd a b s.g 1 s.is h in
    let q : a ∣ s.g * c = (s.by_factor c).2 a (dvd-mul_right a c) p in
    subst (λ (n : ℕ). a ∣ n) (ap (λ n. n * c) one ∙ one-mul c) q

pub coprime_from : (a b : ℕ) → ((d : ℕ) → d ∣ a → d ∣ b → d ∣ 1) → IsGcd a b 1
coprime_from a b h = (one-dvd a, one-dvd b, h)

pub coprime-one : (a : ℕ) → IsGcd a 1 1
coprime-one a = coprime_from a 1 (λ d p q. q)

pub coprime-product : (a b c : ℕ) → IsGcd a b 1 → IsGcd a c 1 → IsGcd a (b * c) 1
coprime-product a b c h k =
    coprime_from a (b * c) (λ d p q.
    k.2 d p (divides_other_factor d b c (coprime_from d b (λ e r s. h.2 e (dvd_trans e r p) s)) q))

-- if each of a and b is coprime to each of c and d, then a·b and c·d are coprime
pub coprime-products : (a b c d : ℕ) → IsGcd a c 1 → IsGcd a d 1 → IsGcd b c 1 → IsGcd b d 1
    → IsGcd (a * b) (c * d) 1
coprime-products a b c d ac ad bc bd =
    IsGcd-swap (c * d) (a * b) 1
    (coprime-product (c * d) a b
    (IsGcd-swap a (c * d) 1 (coprime-product a c d ac ad))
    (IsGcd-swap b (c * d) 1 (coprime-product b c d bc bd)))

-- if g > 0 is the greatest common divisor of a and b, then a/g and b/g are coprime
pub coprime_without : (a b g : ℕ) → 0 < g → IsGcd a b g → IsGcd (a / g) (b / g) 1
coprime_without a b g some h =
    coprime_from (a / g) (b / g) (λ d p q.
    let whole =
    λ (n : ℕ) (w : g ∣ n) (r : d ∣ n / g). subst (λ (m : ℕ). d * g ∣ m) (div-mul_cancel g w)
    (mul-dvd-mul_right d r g) in
    let t : d * g ∣ 1 * g =
    subst (λ (m : ℕ). d * g ∣ m) (sym (one-mul g))
    (h.2 (d * g) (whole a h.0 p) (whole b h.1 q)) in
    dvd_of_mul-dvd-mul_right {k = g} d {n = 1} some t)

pub divisor_positive : (a b g : ℕ) → 0 < b → IsGcd a b g → 0 < g
divisor_positive a b g some h = pos_of_dvd_of_pos h.1 some

pub quotient_positive : (n g : ℕ) → 0 < n → g ∣ n → 0 < n / g
quotient_positive n g some h =
    pos_of_dvd_of_pos (dvd-mul_right (n / g) g)
    (subst (λ (m : ℕ). 0 < m) (sym (div-mul_cancel g h)) some)

-- ---- the function `greatest_common_divisor` computes the greatest common divisor

pub greatest_common_divisor-is : (a b g : ℕ) → IsGcd a b g → greatest_common_divisor a b ≡ g
unfolding greatest_common_divisor
greatest_common_divisor-is a b g h = gcd-only a b g h

pub IsGcd-greatest : (a b : ℕ) → IsGcd a b (greatest_common_divisor a b)
unfolding greatest_common_divisor
IsGcd-greatest a b = IsGcd-gcd a b
