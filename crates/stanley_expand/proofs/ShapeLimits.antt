-- The partition of a Grassmannian permutation of at most m + 16 letters, with m at most 64, has at most 512 rows and at most 4,096 cells, as the
-- partitions in a list of terms must have.
use Rattle.std.proofs.Common.{◌≡◌, ℕ, zero, suc, ◌+◌, ◌-◌, ◌*◌, ◌≤◌, List, [], ◌∷◌, length, get_or, arith, inl, inr}
use Rattle.std.proofs.lemmas.Bool.{cases_lt}
use Rattle.sym_model.specs.Partition.{size}
use Rattle.sym_model.specs.Permutation.{letter}
use Rattle.sym_model.specs.Alternant.{staircase}
use Rattle.beta_list_laws.specs.StrictFall.{FallsStrictly}
use Rattle.beta_list_laws.proofs.BetaLists.{size-from_beta}
use Rattle.partitions.specs.Limits.{IsWithinLimits}
use Rattle.schubert_laws.specs.TransitionOrder.{IsShort}
use Rattle.schubert_laws.proofs.Ranks.{letter_within}
use Rattle.stanley_expand.specs.Grassmannian.{IsRising, front_beta, front_shape}
use Rattle.stanley_expand.proofs.SchurPositive.{front_strict, length_front, front_partition, front_rows}
use Rattle.std.proofs.lemmas.List.{get_or_past}

size_falling : (t : ℕ) (b : List ℕ) → FallsStrictly b → get_or b 0 0 ≤ t + length b - 1 → size b ≤ size (staircase (length b)) + length b * t
size_falling t [] f h = omega arith
size_falling t (a ∷ []) f h = let s : 1 * t ≡ t = omega arith in omega arith
size_falling t (a ∷ c ∷ b) f h =
    let f0 = f.0 in
    let e = size_falling t (c ∷ b) f.1 (omega arith) in
    let s : suc (length (c ∷ b)) * t ≡ length (c ∷ b) * t + t = omega arith in
    omega arith

letter_most : (n : ℕ) (u : List ℕ) (i : ℕ) → IsShort n u → 1 ≤ i → i ≤ n → letter u i ≤ n
letter_most n u i s h l = elim (cases_lt (length u) i) [
  | inl k ↦ let p = get_or_past u (i - 1) i (omega arith) in omega arith
  | inr k ↦ let p = letter_within u i s.one_line k in let few = s.few in omega arith
]

front_first : (m : ℕ) (u : List ℕ) → IsShort (m + 16) u → get_or (front_beta m u) 0 0 ≤ 16 + length (front_beta m u) - 1
front_first zero u s = omega arith
front_first (suc m) u s = let a = letter_most (suc m + 16) u (suc m) s (omega arith) (omega arith) in let l = length_front m u in omega arith

pub shape_limits : (m : ℕ) (u : List ℕ) → m ≤ 64 → IsRising m (m + 16) u → IsWithinLimits (front_shape m u)
shape_limits m u h i =
    let strict = front_strict m u i.short.one_line i.rises in
    let a = size-from_beta (front_beta m u) strict in
    let b = size_falling 16 (front_beta m u) strict (front_first m u i.short) in
    let l = length_front m u in
    let f = front_rows m u in
    record { partition = front_partition m u i.short.one_line i.rises; few = omega arith; small = omega arith }
