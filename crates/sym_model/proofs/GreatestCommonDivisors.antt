-- Euclid's rule gives the greatest common divisor of a and b if more than b steps are allowed.
use Rattle.std.proofs.Common.{◌≡◌, ℕ, zero, suc, ◌+◌, ◌*◌, ◌/◌, ◌%◌, ◌<◌, ◌≤◌, refl, sym, subst, ap, ◌∙◌, arith, add-one, rules}
use Rattle.std.specs.Int.{IsGcd, ◌∣◌}
use Rattle.std.proofs.lemmas.Nat.Gcd.{IsGcd-from_zero, IsGcd-from_mod, same_from_IsGcd, le_from_IsGcd, dvd_refl, dvd-zero}
use Rattle.std.proofs.Math.Nat.{div-mul_cancel}
use Rattle.sym_model.specs.Canonical.{gcd_within, gcd}

below_next : (a b k : ℕ) → suc b < suc k → a % suc b < k
below_next a b k h = omega arith

gcd_within-enough : (k m a b : ℕ) → b < k → b < m → gcd_within k a b ≡ gcd_within m a b
gcd_within-enough zero m a b h l = absurd (omega arith)
gcd_within-enough (suc k) zero a b h l = absurd (omega arith)
gcd_within-enough (suc k) (suc m) a zero h l = refl
gcd_within-enough (suc k) (suc m) a (suc b) h l =
    gcd_within-enough k m (suc b) (a % suc b) (below_next a b k h) (below_next a b m l)

gcd-step_suc : (a b : ℕ) → gcd a (suc b) ≡ gcd (suc b) (a % suc b)
gcd-step_suc a b = search (rules, add-one, gcd_within-enough)

pub gcd-step : (a b : ℕ) → 0 < b → gcd a b ≡ gcd b (a % b)
gcd-step a zero h = absurd (omega arith)
gcd-step a (suc b) h = gcd-step_suc a b

IsGcd-within : (k a b : ℕ) → b < k → IsGcd a b (gcd_within k a b)
IsGcd-within zero a b h = absurd (omega arith)
IsGcd-within (suc k) a zero h = IsGcd-from_zero a 0 refl
IsGcd-within (suc k) a (suc b) h =
    IsGcd-from_mod a (suc b) _ (IsGcd-within k (suc b) (a % suc b) (below_next a b k h))

pub IsGcd-gcd : (a b : ℕ) → IsGcd a b (gcd a b)
IsGcd-gcd a b = IsGcd-within (b + 1) a b (omega arith)

-- if g is a greatest common divisor of a and b (`IsGcd a b g`), it is gcd(a, b)
pub gcd-only : (a b g : ℕ) → IsGcd a b g → gcd a b ≡ g
gcd-only a b g h = same_from_IsGcd a b (gcd a b) g (IsGcd-gcd a b) h

mul-zero_at : (n g : ℕ) → g ≡ 0 → n * g ≡ 0
mul-zero_at n g e = ap (λ x. n * x) e ∙ omega arith

pub gcd-positive : (a b : ℕ) → 0 < a → 0 < gcd a b
gcd-positive a b h = by (gcd a b) refl
  where
    by : (g : ℕ) → gcd a b ≡ g → 0 < gcd a b
    by zero e = absurd (omega (arith, div-mul_cancel (gcd a b) (IsGcd-gcd a b).0, e, h, mul-zero_at (a / gcd a b) (gcd a b) e))
    by (suc g) e = omega arith

-- if a and b are not both 0, each common divisor d of a and b is at most gcd(a, b)
pub gcd-greatest : (a b d : ℕ) → 0 < a + b → d ∣ a → d ∣ b → d ≤ gcd a b
gcd-greatest zero b d h p q =
    le_from_IsGcd zero b (gcd zero b) d (IsGcd-gcd zero b) (subst (λ g. 0 < g) (sym (gcd-only zero b b (dvd-zero b, dvd_refl b, λ c x y. y))) (omega arith)) p q
gcd-greatest (suc a) b d h p q = le_from_IsGcd (suc a) b (gcd (suc a) b) d (IsGcd-gcd (suc a) b) (gcd-positive (suc a) b (omega arith)) p q
