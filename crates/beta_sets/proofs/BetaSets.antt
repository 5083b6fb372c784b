-- The operations on sets of beta numbers that are stored as binary digits (specs/BetaSets).
use Rattle.std.proofs.Common.{◌≡◌, ℕ, zero, suc, ◌+◌, ◌*◌, ◌%◌, ◌^◌, ◌<◌, ◌≤◌, true, false, [], ◌++◌, map, refl, sym, ap, ◌∙◌, subst, arith}
use Rattle.std.specs.Prelude.{nat_eq, bit_or}
use Rattle.std.specs.Int.{bit_at}
use Rattle.std.proofs.Math.Nat.{pow-le-pow_right}
use Rattle.std.proofs.lemmas.Nat.{one_shl, or_disjoint}
use Rattle.std.proofs.lemmas.Nat.Bits.{and_pow, bit_at-lt}
use Rattle.sym_model.specs.Bases.{has}
use Rattle.sym_model.specs.BetaList.{beta, from_beta}
use Rattle.sym_model.specs.Partition.{IsPartition, rows, size}
use Rattle.sym_model.specs.WholeTerms.{WholeTermsOf}
use Rattle.beta_sets.specs.BetaSets.{numbers, places, shape, IsShape, AreShapes}
use Rattle.beta_sets.proofs.BinaryPlaces.{lowest, places-suc, has-places, places-none}

pub below_power : (x n m : ℕ) → x < 2 ^ n → n ≤ m → x < 2 ^ m
below_power x n m h l = let p : 2 ^ n ≤ 2 ^ m = pow-le-pow_right {n = 2} (omega arith) l in omega arith

pub digit-absent : (set a : ℕ) → a < 64 → has a (numbers set) ≡ false → bit_at set a ≡ 0
digit-absent set a l h = by (bit_at set a) (bit_at-lt set a) (sym (has-places 64 a set l) ∙ h)
  where
    by : (d : ℕ) → d < 2 → nat_eq d 1 ≡ false → d ≡ 0
    by zero k e = refl
    by (suc zero) k e = absurd (let t : nat_eq 1 1 ≡ true = refl in cc)
    by (suc (suc d)) k e = absurd (omega arith)

pub or_digit : (set a : ℕ) → a < 64 → has a (numbers set) ≡ false → bit_or set (2 ^ a) ≡ set + 2 ^ a
or_digit set a l h = or_disjoint set (2 ^ a) (and_pow set a ∙ ap (λ d. d * 2 ^ a) (digit-absent set a l h) ∙ none (2 ^ a))
  where
    none : (x : ℕ) → 0 * x ≡ 0
    none x = omega arith

pub with_digit : (set a : ℕ) → a < 64 → has a (numbers set) ≡ false → bit_or set (1 * 2 ^ a % 2 ^ 64) ≡ set + 2 ^ a
with_digit set a l h = ap (bit_or set) (one_shl a 64 l) ∙ or_digit set a l h

-- ---- the empty set, and the sets of beta numbers of partitions with at most a given number of cells

places-zero : (k : ℕ) → places k 0 ≡ []
places-zero zero = places-none 0
places-zero (suc k) = places-suc k 0 ∙ ap (λ xs. map suc xs ++ lowest (nat_eq (0 % 2) 1)) (places-zero k)

pub shape-empty : shape 0 ≡ []
shape-empty = ap from_beta (places-zero 64)

pub empty_shape : IsShape 0 0
empty_shape = record {
  beta = record {
    partition = subst IsPartition (sym shape-empty) (record { falls = tt; positive = tt });
    enough = omega arith;
    numbers = places-zero 64 ∙ sym (ap (λ ν. beta (rows ν) ν) shape-empty);
  };
  cells = let e = ap size shape-empty in omega arith;
  low = omega arith;
}

pub within_more : (d e : ℕ) (terms : WholeTermsOf ℕ) → d ≤ e → AreShapes d terms → AreShapes e terms
within_more d e terms l are t m =
    let is = are t m in
    record { beta = is.beta; cells = let s = is.cells in omega arith; low = below_power t.0 (d + 1) (e + 1) is.low (omega arith) }
