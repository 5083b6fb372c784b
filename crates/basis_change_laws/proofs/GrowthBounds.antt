-- The *growth* at the degree d is d!·(2d)^d, a bound for the factor by which a conversion into the basis p, h or e can increase the coefficients of a
-- list of terms of degree d (specs/Weight). Here are bounds for the product of the growths at a and at b by the growth at a + b.
use Rattle.std.proofs.Common.{◌≡◌, ℕ, zero, suc, ◌+◌, ◌*◌, ◌^◌, ◌<◌, ◌≤◌, refl, ap, ◌∙◌, arith, sym}
use Rattle.std.proofs.Math.Nat.{pow-le-pow_right, mul_assoc, pow-le-pow_left}
use Rattle.std.proofs.lemmas.Nat.{mul-le, pow-add}
use Rattle.sym_model.specs.Expansion.{Basis}
use Rattle.sym_model.specs.Weight.{factorial, growth}
use Rattle.monomial_laws.proofs.Growths.{factorial-positive, factorial-mono}
use native.Mathlib.Nat.{mul-le-mul_left, pow-zero}

abbrev pub grown : ℕ → ℕ
grown d = growth Basis.completes d

pub grown-is : (d : ℕ) → grown d ≡ factorial d * (2 * d) ^ d
grown-is zero = refl
grown-is (suc d) = refl

power-up : (a d : ℕ) → a ≤ d → (2 * a) ^ a ≤ (2 * d) ^ d
power-up zero zero h = omega arith
power-up a (suc d) h =
    let p = pow-le-pow_left {n = (2 * a)} {m = (2 * suc d)} (omega arith) a in
    let q = pow-le-pow_right {n = 2 * suc d} (omega arith) h in
    omega arith
power-up (suc a) zero h = absurd (omega arith)

-- if a ≤ d, d!/a! times the growth at a is at most the growth at d
pub grown-raised : (a d c : ℕ) → a ≤ d → c * factorial a ≡ factorial d → c * grown a ≤ grown d
grown-raised a d c h e =
    let x = (2 * a) ^ a in
    let p : factorial d * (2 * a) ^ a ≤ factorial d * (2 * d) ^ d = mul-le-mul_left (factorial d) (power-up a d h) in
    let g : c * (factorial a * (2 * a) ^ a) ≡ factorial d * (2 * a) ^ a = sym (mul_assoc c (factorial a) ((2 * a) ^ a)) ∙ ap (λ k. k * (2 * a) ^ a) e in
    rw (grown-is a, grown-is d) (omega arith)

grouped : (c u x v y : ℕ) → c * ((u * x) * (v * y)) ≡ (c * (u * v)) * (x * y)
grouped c u x v y = omega arith

-- the binomial coefficient (a + b)!/(a!·b!), times the growths at a and at b, is at most the growth at a + b
pub grown-product : (a b c : ℕ) → c * (factorial a * factorial b) ≡ factorial (a + b) → c * (grown a * grown b) ≤ grown (a + b)
grown-product a b c e =
    let x = (2 * a) ^ a in
    let y = (2 * b) ^ b in
    let z = 2 * (a + b) in
    let p = pow-le-pow_left {n = (2 * a)} {m = (2 * (a + b))} (omega arith) a in
    let q = pow-le-pow_left {n = (2 * b)} {m = (2 * (a + b))} (omega arith) b in
    let r = mul-le ((2 * a) ^ a) ((2 * b) ^ b) ((2 * (a + b)) ^ a) ((2 * (a + b)) ^ b) p q in
    let s = pow-add (2 * (a + b)) a b in
    let t : factorial (a + b) * (x * y) ≤ factorial (a + b) * (2 * (a + b)) ^ (a + b) = mul-le-mul_left (factorial (a + b)) (let u : x * y ≤ (2 * (a + b)) ^ (a + b) = omega arith in u) in
    let g : c * ((factorial a * x) * (factorial b * y)) ≡ factorial (a + b) * (x * y) = grouped c (factorial a) x (factorial b) y ∙ ap (λ k. k * ((2 * a) ^ a * (2 * b) ^ b)) e in
    rw (grown-is a, grown-is b, grown-is (a + b)) (omega arith)

-- if c is (k + s)!/(o·s!), then c·o·2^k times the growth at s is at most the growth at k + s
pub grown-joined : (k s c o : ℕ) → c * (o * factorial s) ≡ factorial (k + s) → c * ((o * 2 ^ k) * grown s) ≤ grown (k + s)
grown-joined k s c o e =
    let x = 2 ^ k in
    let y = (2 * s) ^ s in
    let p = two-up k (k + s) (omega arith) in
    let q = pow-le-pow_left {n = (2 * s)} {m = (2 * (k + s))} (omega arith) s in
    let r = mul-le (2 ^ k) ((2 * s) ^ s) ((2 * (k + s)) ^ k) ((2 * (k + s)) ^ s) p q in
    let a = pow-add (2 * (k + s)) k s in
    let t : factorial (k + s) * (x * y) ≤ factorial (k + s) * (2 * (k + s)) ^ (k + s) = mul-le-mul_left (factorial (k + s)) (let u : x * y ≤ (2 * (k + s)) ^ (k + s) = omega arith in u) in
    let g : c * ((o * x) * (factorial s * y)) ≡ factorial (k + s) * (x * y) = grouped c o x (factorial s) y ∙ ap (λ m. m * (2 ^ k * (2 * s) ^ s)) e in
    rw (grown-is s, grown-is (k + s)) (omega arith)
  where
    two-up : (k d : ℕ) → k ≤ d → 2 ^ k ≤ (2 * d) ^ k
    two-up zero d h = rw (pow-zero 2, pow-zero (2 * d)) (omega arith)
    two-up (suc k) d h = pow-le-pow_left {n = 2} {m = (2 * d)} (omega arith) (suc k)

pub grown-mono : (a d : ℕ) → a ≤ d → grown a ≤ grown d
grown-mono a d h = rw (grown-is a, grown-is d) (mul-le (factorial a) ((2 * a) ^ a) (factorial d) ((2 * d) ^ d) (factorial-mono a d h) (power-up a d h))

pub factorial-within : (d : ℕ) → factorial d ≤ grown d
factorial-within d = let p = grown-raised 0 d (factorial d) (omega arith) (let e : factorial d * 1 ≡ factorial d = omega arith in e) in omega arith

pub grown-positive : (d : ℕ) → 0 < grown d
grown-positive d = let p = factorial-within d in let q = factorial-positive d in omega arith
