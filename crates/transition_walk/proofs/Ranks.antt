-- The weight of a permutation is 256^b, with b its rank (`rank 256`): the number (ℓ·256 + r)·256 + w_r, for a permutation w with ℓ inversions and the
-- last descent r. The weights decrease with each step of the transition rule.
--     weights_less    at most 255 permutations with ranks below b together weigh less than one permutation with the rank b
use Rattle.std.proofs.Common.{◌≡◌, ℕ, zero, suc, ◌+◌, ◌-◌, ◌*◌, ◌^◌, ◌<◌, ◌≤◌, List, ap, ◌∙◌, arith}
use Rattle.transition_walk.specs.Transitions.{rank, weight}
use native.Mathlib.Nat.{mul-le-mul_left, pow-suc}

pow_positive : (k : ℕ) → 1 ≤ 256 ^ k
pow_positive zero = omega arith
pow_positive (suc k) = let h = pow_positive k in let e = pow-suc 256 k in omega arith

pow_more : (k a : ℕ) → 256 ^ a ≤ 256 ^ (a + k)
pow_more zero a = let e : a + 0 ≡ a = omega arith in let p = ap (λ n. 256 ^ n) e in omega arith
pow_more (suc k) a =
    let h = pow_more k a in
    let e : a + suc k ≡ suc (a + k) = omega arith in
    let p = ap (λ n. 256 ^ n) e in
    let q = pow-suc 256 (a + k) in
    omega arith

pub pow_below : (a b : ℕ) → a < b → 256 ^ a ≤ 256 ^ (b - 1)
pow_below a b h = let m = pow_more (b - 1 - a) a in let e : a + (b - 1 - a) ≡ b - 1 = omega arith in let p = ap (λ n. 256 ^ n) e in omega arith

pub weights_less : (b r : ℕ) → 0 < b → 1 ≤ r → r ≤ 255 → (r - 1) * 256 ^ (b - 1) + 256 ^ (b - 1) < 256 ^ b
weights_less b r h first last =
    let m : ℕ = 256 ^ (b - 1) in
    let e : b ≡ suc (b - 1) = omega arith in
    let p = ap (λ n. 256 ^ n) e ∙ pow-suc 256 (b - 1) in
    let q = pow_positive (b - 1) in
    let few : r - 1 ≤ 254 = omega arith in
    let g = mul-le-mul_left (256 ^ (b - 1)) few in
    omega arith

pub weight_positive : (w : List ℕ) → 1 ≤ weight w
weight_positive w = pow_positive (rank 256 w)
