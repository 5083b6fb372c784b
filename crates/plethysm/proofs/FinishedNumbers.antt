-- Inequalities for the computation of a plethysm: N·(a + 1)·(K·(b + 1))^a ≥ 1 if N and K are at least 1; the greatest degree that is allowed for a
-- target basis (`degree_limit`) is at least 10 for every basis; and x·y ≤ most if x ≤ a, y ≤ b and a·b ≤ most.
use Rattle.std.proofs.Common.{ℕ, ◌+◌, ◌*◌, ◌^◌, ◌≤◌, arith}
use Rattle.std.proofs.lemmas.Nat.{mul-le}
use Rattle.std.proofs.Math.Nat.{one-le-pow}
use Rattle.sym_model.specs.Expansion.{Basis, elementaries, completes, power_sums, schurs}
use Rattle.sym_model.specs.ExpressionOffence.{degree_limit}

pub positive-bound : (N a K b : ℕ) → 1 ≤ N → 1 ≤ K → 1 ≤ N * (a + 1) * (K * (b + 1)) ^ a
positive-bound N a K b n k =
    let s = mul-le 1 1 N (a + 1) n (omega arith) in
    mul-le 1 1 (N * (a + 1)) ((K * (b + 1)) ^ a) (omega arith) (one-le-pow a (K * (b + 1)) (mul-le 1 1 K (b + 1) k (omega arith)))

pub degree_limit-ten : (target : Basis) → 10 ≤ degree_limit target
degree_limit-ten Basis.monomials = omega arith
degree_limit-ten elementaries = omega arith
degree_limit-ten completes = omega arith
degree_limit-ten power_sums = omega arith
degree_limit-ten schurs = omega arith

pub product-low : (x y a b most : ℕ) → x ≤ a → y ≤ b → a * b ≤ most → x * y ≤ most
product-low x y a b most h k l = let p = mul-le x y a b h k in omega arith
