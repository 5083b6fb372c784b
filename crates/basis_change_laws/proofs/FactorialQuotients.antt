-- Exact quotients of factorials: binomial coefficients, and d!/a! for a ≤ d.
use Rattle.std.proofs.Common.{◌≡◌, ℕ, zero, suc, ◌+◌, ◌-◌, ◌*◌, ◌/◌, ◌^◌, ◌<◌, ◌≤◌, refl, sym, ap, ◌∙◌, subst, arith, rules}
use Rattle.std.specs.Int.{◌∣◌}
use Rattle.sym_model.specs.Weight.{factorial}
use Rattle.monomial_laws.proofs.Growths.{factorial-positive, factorial-mono}
use native.Mathlib.Nat.{div-mul_cancel, dvd-mul_left, mul-le-mul_left, mul-le-mul_right, mul-pos}
use Rattle.std.proofs.Math.Nat.{mul_assoc, mul_right_comm}

choose : ℕ → ℕ → ℕ
choose zero b = 1
choose (suc a) zero = 1
choose (suc a) (suc b) = choose a (suc b) + choose (suc a) b

choose-is : (a b : ℕ) → choose a b * (factorial a * factorial b) ≡ factorial (a + b)
unfolding choose
choose-is zero b = let e : 0 + b ≡ b = omega arith in let f : 1 * (1 * factorial b) ≡ factorial b = omega arith in f ∙ ap factorial (sym e)
choose-is (suc a) zero = let e : suc a + 0 ≡ suc a = omega arith in let f : 1 * (factorial (suc a) * 1) ≡ factorial (suc a) = omega arith in f ∙ ap factorial (sym e)
choose-is (suc a) (suc b) =
    let l = choose-is a (suc b) in
    let r = choose-is (suc a) b in
    let e : a + suc b ≡ suc (a + b) = omega arith in
    let f : suc a + b ≡ suc (a + b) = omega arith in
    let g : suc a + suc b ≡ suc (suc (a + b)) = omega arith in
    let h = ap factorial e in
    let i = ap factorial f in
    let j = ap factorial g in
    let m : factorial (suc (suc (a + b))) ≡ suc (suc (a + b)) * factorial (suc (a + b)) = refl in
    let n = spread (choose a (suc b)) (choose (suc a) b) (suc a) (factorial a) (suc b) (factorial b) in
    let p = ap (λ x. suc a * x) (l ∙ h) in
    let q = ap (λ x. suc b * x) (r ∙ i) in
    let s : suc a * factorial (suc (a + b)) + suc b * factorial (suc (a + b)) ≡ suc (suc (a + b)) * factorial (suc (a + b)) = sum a b (factorial (suc (a + b))) in
    omega arith
  where
    spread : (x y a u b v : ℕ) → (x + y) * ((a * u) * (b * v)) ≡ a * (x * (u * (b * v))) + b * (y * ((a * u) * v))
    spread x y a u b v = omega arith

    sum : (a b f : ℕ) → suc a * f + suc b * f ≡ suc (suc (a + b)) * f
    sum a b f = omega arith

pub quotient-is : (x k n : ℕ) → x * k ≡ n → n / k * k ≡ n
quotient-is x k n e = div-mul_cancel k (subst (λ m. k ∣ m) e (dvd-mul_left k x))

pub binomial-is : (a b : ℕ) → factorial (a + b) / (factorial a * factorial b) * (factorial a * factorial b) ≡ factorial (a + b)
binomial-is a b = quotient-is (choose a b) (factorial a * factorial b) (factorial (a + b)) (choose-is a b)

pub rise-is : (a d : ℕ) → a ≤ d → factorial d / factorial a * factorial a ≡ factorial d
rise-is a d h =
    let e : a + (d - a) ≡ d = omega arith in
    let c = choose-is a (d - a) ∙ ap factorial e in
    quotient-is (choose a (d - a) * factorial (d - a)) (factorial a) (factorial d) ((mul_right_comm (choose a (d - a)) (factorial (d - a)) (factorial a) ∙ mul_assoc (choose a (d - a)) (factorial a) (factorial (d - a))) ∙ c)

pub factors-positive : (a b : ℕ) → 0 < factorial a * factorial b
factors-positive a b = mul-pos (factorial-positive a) (factorial-positive b)

-- if x divides d! and d ≤ 20, then x < 2^127
pub within-factorial : (x k d : ℕ) → x * k ≡ factorial d → 0 < k → d ≤ 20 → x < 2 ^ 127
within-factorial x k d e p h = search (rules, factorial-mono, mul-le-mul_left)

pub quotient-small : (a b : ℕ) → a + b ≤ 20 → factorial a * factorial b < 2 ^ 128
quotient-small a b h = search (rules, factorial-mono, mul-le-mul_left, mul-le-mul_right)
