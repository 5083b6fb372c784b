-- The bounds for the numbers that occur if a plethysm is computed by way of power sums are at most its weight (`plethysm_weight`).
use Rattle.std.proofs.Common.{ℕ, zero, suc, ◌+◌, ◌*◌, ◌^◌, ◌≤◌, max, arith}
use Rattle.std.proofs.lemmas.Nat.{mul-le}
use Rattle.std.proofs.Math.Nat.{one-le-pow, pow-le-pow_left, pow-le-pow_right}
use Rattle.sym_model.specs.Expansion.{Basis, power_sums}
use Rattle.sym_model.specs.Weight.{factorial, growth}
use Rattle.sym_model.specs.Plethysm.{plethysm_weight}
use Rattle.monomial_laws.proofs.Growths.{factorial-positive, factorial-mono, growth-most, growth-one}
use Rattle.monomial_laws.proofs.WeightBounds.{growth-mono}
use native.Mathlib.Nat.{mul-le-mul_left}

wide : (N D s X C Y : ℕ) → 1 ≤ D → 1 ≤ s → Y ≤ C → N * X * Y ≤ N * D * s * X * C
wide N D s X C Y h k l =
    let p = mul-le-mul_left (N * X) l in
    let q = mul-le 1 1 D s h k in
    let r = mul-le-mul_left (N * X * C) (let o : 1 ≤ D * s = omega arith in o) in
    omega arith

times_more : (N Y : ℕ) → 1 ≤ N → Y ≤ N * Y
times_more N Y h = let p = mul-le 1 Y N Y h (omega arith) in omega arith

module _ (N D a K b : ℕ) (n : 1 ≤ N) (d : 1 ≤ D) (k : 1 ≤ K) where
  pub some : 1 ≤ K * (b + 1)
  some = let p = mul-le 1 1 K (b + 1) k (omega arith) in omega arith

  power-one : 1 ≤ (K * (b + 1)) ^ a
  power-one = one-le-pow a (K * (b + 1)) some

  pub weight-met : N * growth power_sums a * ((K * (b + 1)) ^ a * factorial (a * b)) ≤ plethysm_weight N D a K b
  weight-met =
      let w = wide N D (a + 1) ((K * (b + 1)) ^ a) (max (growth power_sums a * factorial (a * b)) (growth power_sums (a * b))) (growth power_sums a * factorial (a * b)) d (omega arith) (omega arith) in
      omega arith

  pub weight-product : (s : ℕ) → s ≤ a → (K * (b + 1)) ^ s * growth Basis.monomials (s * b) ≤ plethysm_weight N D a K b
  weight-product s l =
      let x : (K * (b + 1)) ^ s ≤ (K * (b + 1)) ^ a = pow-le-pow_right some l in
      let y = growth-mono (s * b) (a * b) (mul-le s b a b l (omega arith)) in
      let z = growth-most Basis.monomials (a * b) in
      let p = mul-le ((K * (b + 1)) ^ s) (growth Basis.monomials (s * b)) ((K * (b + 1)) ^ a) (growth power_sums (a * b)) x (omega arith) in
      let w = wide N D (a + 1) ((K * (b + 1)) ^ a) (max (growth power_sums a * factorial (a * b)) (growth power_sums (a * b))) (growth power_sums (a * b)) d (omega arith) (omega arith) in
      let t = times_more N ((K * (b + 1)) ^ a * growth power_sums (a * b)) n in
      omega arith

  pub weight-finished : (target : Basis) → N * (a + 1) * (K * (b + 1)) ^ a * D * growth target (a * b) ≤ plethysm_weight N D a K b
  weight-finished target =
      let z = growth-most target (a * b) in
      let p = mul-le-mul_left (N * D * (a + 1) * (K * (b + 1)) ^ a) (let o : growth target (a * b) ≤ max (growth power_sums a * factorial (a * b)) (growth power_sums (a * b)) = omega arith in o) in
      omega arith

  pub weight-outer : N * D * growth power_sums a ≤ plethysm_weight N D a K b
  weight-outer =
      let f = mul-le (growth power_sums a) 1 (growth power_sums a) (factorial (a * b)) (omega arith) (factorial-positive (a * b)) in
      let q = mul-le 1 1 (a + 1) ((K * (b + 1)) ^ a) (omega arith) power-one in
      let p = mul-le (N * D) (growth power_sums a) (N * D * ((a + 1) * (K * (b + 1)) ^ a)) (max (growth power_sums a * factorial (a * b)) (growth power_sums (a * b)))
      (let r = mul-le-mul_left (N * D) (let o : 1 ≤ (a + 1) * (K * (b + 1)) ^ a = omega arith in o) in omega arith)
      (omega arith) in
      omega arith

growth-rises : (d e : ℕ) → d ≤ e → growth power_sums d ≤ growth power_sums e
growth-rises zero e h = growth-one e
growth-rises (suc d) zero h = absurd (omega arith)
growth-rises (suc d) (suc e) h =
    let p = pow-le-pow_left (let o : 2 * suc d ≤ 2 * suc e = omega arith in o) (suc d) in
    let q : (2 * suc e) ^ suc d ≤ (2 * suc e) ^ suc e = pow-le-pow_right (let o : 1 ≤ 2 * suc e = omega arith in o) h in
    mul-le (factorial (suc d)) ((2 * suc d) ^ suc d) (factorial (suc e)) ((2 * suc e) ^ suc e) (factorial-mono (suc d) (suc e) h) (omega arith)

-- if K ≥ 1, a ≤ c and b ≤ d, the weight of a plethysm with the degrees a and b is at most that with the degrees c and d
pub weight-rises : (N D a c K b d : ℕ) → 1 ≤ K → a ≤ c → b ≤ d → plethysm_weight N D a K b ≤ plethysm_weight N D c K d
weight-rises N D a c K b d k h l =
    let base = mul-le-mul_left K (let o : b + 1 ≤ d + 1 = omega arith in o) in
    let wide = mul-le 1 1 K (d + 1) k (omega arith) in
    let left = pow-le-pow_left (let o : K * (b + 1) ≤ K * (d + 1) = omega arith in o) a in
    let right : (K * (d + 1)) ^ a ≤ (K * (d + 1)) ^ c = pow-le-pow_right (let o : 1 ≤ K * (d + 1) = omega arith in o) h in
    let degree = mul-le a b c d h l in
    let first = mul-le (growth power_sums a) (factorial (a * b)) (growth power_sums c) (factorial (c * d)) (growth-rises a c h) (factorial-mono (a * b) (c * d) degree) in
    let second = growth-rises (a * b) (c * d) degree in
    mul-le (N * D * (a + 1) * (K * (b + 1)) ^ a) (max (growth power_sums a * factorial (a * b)) (growth power_sums (a * b)))
    (N * D * (c + 1) * (K * (d + 1)) ^ c) (max (growth power_sums c * factorial (c * d)) (growth power_sums (c * d)))
    (mul-le (N * D * (a + 1)) ((K * (b + 1)) ^ a) (N * D * (c + 1)) ((K * (d + 1)) ^ c) (mul-le-mul_left (N * D) (let o : a + 1 ≤ c + 1 = omega arith in o)) (omega arith))
    (omega arith)
