-- Least common multiples of two numbers, and the steps of `common_denominator`, which computes the least common
-- multiple of two denominators.
use Rattle.std.proofs.Common.{◌≡◌, ℕ, ◌*◌, ◌/◌, ◌^◌, ◌<◌, ◌≤◌, sym, ◌∙◌, ap, subst, arith, pos, to_z, of_z, to_z-of_z, ℤ, FitsSigned}
use Rattle.std.specs.Int.{w128}
use Rattle.std.proofs.lemmas.Int.{to_z_pos, ints}
use Rattle.std.proofs.Math.Nat.{div-le_self, div-mul_cancel, mul-div_cancel}
use Rattle.sym_model.specs.Canonical.{gcd}
use Rattle.sym_model.specs.Expression.{lcm}
use Rattle.sym_model.proofs.GreatestCommonDivisors.{IsGcd-gcd, gcd-positive}
use Rattle.sym_model.proofs.Numbers.{times-more, positive_factor}
use Rattle.monomial_laws.proofs.WeightBounds.{lcm-positive}

pub times-positive : (a b : ℕ) → 0 < a → 0 < b → 0 < a * b
times-positive a b h k = omega (arith, times-more a b k)

-- d and k are multiples of gcd(d, k), and gcd(d, k), d/gcd(d, k) and k/gcd(d, k) are positive
pub record Parts (d k : ℕ) : Type 0 where
  pub first : d / gcd d k * gcd d k ≡ d
  pub second : k / gcd d k * gcd d k ≡ k
  pub positive : 0 < gcd d k
  pub first_positive : 0 < d / gcd d k
  pub second_positive : 0 < k / gcd d k

pub parts_of : (d k : ℕ) → 0 < d → 0 < k → Parts d k
parts_of d k hd hk =
    let a = div-mul_cancel (gcd d k) (IsGcd-gcd d k).0 in
    let b = div-mul_cancel (gcd d k) (IsGcd-gcd d k).1 in
    record {
      first = a;
      second = b;
      positive = gcd-positive d k hd;
      first_positive = positive_factor _ _ _ a hd;
      second_positive = positive_factor _ _ _ b hk;
    }

cross : (a b g d k : ℕ) → a * g ≡ d → b * g ≡ k → d * b ≡ a * k
cross a b g d k e f = rw (← e, ← f) (omega arith)

over_first : (a b g d k : ℕ) → a * g ≡ d → b * g ≡ k → 0 < d → a * k / d ≡ b
over_first a b g d k e f h =
    let turn : a * k ≡ b * d = rw (← e, ← f) (omega arith) in
    ap (λ n. n / d) turn ∙ mul-div_cancel b h

-- for positive d and k, lcm(d, k)/d = k/gcd(d, k)
pub lcm-over_first : (d k : ℕ) → 0 < d → 0 < k → lcm d k / d ≡ k / gcd d k
lcm-over_first d k hd hk =
    let p = parts_of d k hd hk in over_first _ _ (gcd d k) d k p.first p.second hd

pub lcm-over_second : (d k : ℕ) → 0 < d → 0 < k → lcm d k / k ≡ d / gcd d k
lcm-over_second d k hd hk = mul-div_cancel (d / gcd d k) hk

pub lcm-at_least_first : (d k : ℕ) → 0 < d → 0 < k → d ≤ lcm d k
lcm-at_least_first d k hd hk =
    let p = parts_of d k hd hk in
    let q : d * (k / gcd d k) ≡ lcm d k = cross (d / gcd d k) (k / gcd d k) (gcd d k) d k p.first p.second in
    omega (arith, times-more d (k / gcd d k) p.second_positive, q)

pub lcm-at_least_second : (d k : ℕ) → 0 < d → 0 < k → k ≤ lcm d k
lcm-at_least_second d k hd hk =
    let p = parts_of d k hd hk in omega (arith, times-more k (d / gcd d k) p.first_positive)

cast_quotient : (a g : ℕ) → a < 2 ^ 127 → to_z w128 (a / g) ≡ pos (a / g)
cast_quotient a g h = to_z_pos w128 (a / g) (let l = div-le_self a g in omega arith)

pub common_denominator-is : (a b g den : ℕ) → 0 < a → a < 2 ^ 127 → 0 < b → b < 2 ^ 127 → g ≡ gcd a b → den ≡ a / g * b → den < 2 ^ 127
    → (den ≡ lcm a b) × (den < 2 ^ 127) × (0 < den) × (to_z w128 (b / g) ≡ pos (lcm a b / a)) × (to_z w128 (a / g) ≡ pos (lcm a b / b))
common_denominator-is a b g den p h q k e d l =
    let is : den ≡ lcm a b = d ∙ ap (λ n. a / n * b) e in
    let some = lcm-positive a b p q in (
      is,
      l,
      omega arith,
      cast_quotient b g k ∙ ap pos (ap (λ n. b / n) e ∙ sym (lcm-over_first a b p q)),
      cast_quotient a g h ∙ ap pos (ap (λ n. a / n) e ∙ sym (lcm-over_second a b p q)),
    )

small_again : (z : ℤ) (n : ℕ) → z ≡ pos n → n < 2 ^ 127 → to_z w128 (of_z w128 z) ≡ z
small_again z n e h = to_z-of_z (subst (FitsSigned w128) (sym e) (fits n h))
  where
    fits : (n : ℕ) → n < 2 ^ 127 → FitsSigned w128 (pos n)
    fits n h = omega (arith, ints)

pub from_left-again : (a b den : ℕ) (z : ℤ) → den ≡ lcm a b → den < 2 ^ 127 → z ≡ pos (lcm a b / a) → to_z w128 (of_z w128 z) ≡ z
from_left-again a b den z d l e = small_again z (lcm a b / a) e (let m = div-le_self (lcm a b) a in omega arith)

pub from_right-again : (a b den : ℕ) (z : ℤ) → den ≡ lcm a b → den < 2 ^ 127 → z ≡ pos (lcm a b / b) → to_z w128 (of_z w128 z) ≡ z
from_right-again a b den z d l e = small_again z (lcm a b / b) e (let m = div-le_self (lcm a b) b in omega arith)
