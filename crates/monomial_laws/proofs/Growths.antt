-- Factorials are positive and increasing. The number `growth target d` (specs/Weight) bounds the factor by which a conversion into the basis `target`
-- increases the coefficients of a list of terms of degree d. If d > 0, it is d!·(2d)^d for p, h and e, and d^d for m and s. No basis has a greater
-- one than p.
use Rattle.std.proofs.Common.{◌≡◌, ℕ, zero, suc, ◌+◌, ◌-◌, ◌*◌, ◌^◌, ◌<◌, ◌≤◌, subst, arith, ap, sym, rules}
use Rattle.std.proofs.lemmas.Nat.{mul-le}
use Rattle.std.proofs.Math.Nat.{one-le-pow, pow-le-pow_left}
use Rattle.sym_model.specs.Expansion.{Basis, elementaries, completes, power_sums, schurs}
use Rattle.sym_model.specs.Weight.{factorial, growth}

pub factorial-positive : (d : ℕ) → 0 < factorial d
factorial-positive zero = omega arith
factorial-positive (suc d) = let p = mul-le 1 1 (suc d) (factorial d) (omega arith) (factorial-positive d) in omega arith

pub factorial-more : (d : ℕ) → factorial d ≤ factorial (suc d)
factorial-more d = let p = mul-le 1 (factorial d) (suc d) (factorial d) (omega arith) (omega arith) in omega arith

pub factorial-far : (d j : ℕ) → factorial d ≤ factorial (j + d)
factorial-far d zero = let e : 0 + d ≡ d = omega arith in rw e (omega arith)
factorial-far d (suc j) = let e : suc j + d ≡ suc (j + d) = omega arith in let h = factorial-far d j in let k = factorial-more (j + d) in rw e (omega arith)

pub factorial-mono : (d e : ℕ) → d ≤ e → factorial d ≤ factorial e
factorial-mono d e h = let i : (e - d) + d ≡ e = omega arith in subst (λ k. factorial d ≤ factorial k) i (factorial-far d (e - d))

plain-growth : (d : ℕ) → suc d ^ suc d ≤ factorial (suc d) * (2 * suc d) ^ suc d
plain-growth d = search (rules, pow-le-pow_left, mul-le, factorial-positive)

-- `growth` of the basis `target` at the degree d is at most that of p
pub growth-most : (target : Basis) (d : ℕ) → growth target d ≤ growth power_sums d
growth-most target zero = omega arith
growth-most Basis.monomials (suc d) = plain-growth d
growth-most elementaries (suc d) = omega arith
growth-most completes (suc d) = omega arith
growth-most power_sums (suc d) = omega arith
growth-most schurs (suc d) = plain-growth d

pub growth-one : (d : ℕ) → 1 ≤ growth power_sums d
growth-one zero = omega arith
growth-one (suc d) = mul-le 1 1 (factorial (suc d)) ((2 * suc d) ^ suc d) (factorial-positive (suc d)) (one-le-pow (suc d) (2 * suc d) (omega arith))

pub factorial-step : (d : ℕ) → 0 < d → factorial d ≡ d * factorial (d - 1)
factorial-step zero h = absurd (omega arith)
factorial-step (suc d) h = let e : suc d - 1 ≡ d = omega arith in ap (λ k. suc d * factorial k) (sym e)
