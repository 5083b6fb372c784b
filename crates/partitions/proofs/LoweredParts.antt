-- A partition with one part lowered by 1.
use Rattle.std.proofs.Common.{◌≡◌, ℕ, zero, suc, ◌-◌, ◌<◌, ◌≤◌, List, [], ◌∷◌, length, take, get_or, refl, sym, ap, ◌∙◌, subst, arith}
use Rattle.std.proofs.Math.ListN.{set}
use Rattle.sym_model.specs.Partition.{IsPartition, Falls, ArePositive, size, in_front, without_last_zeros}
use Rattle.sym_model.specs.Slide.{lowered_at}
use Rattle.sym_model.proofs.SortedParts.{IsPartition-without_last_zeros, size-without_last_zeros}
use Rattle.sym_model.proofs.Parts.{in_front-positive, without_last_zeros-positive, length-without_last_zeros, size-lowered}
use Rattle.partitions.specs.Limits.{HasCells}

pub set-lowered : (xs : List ℕ) (i : ℕ) → set xs i (get_or xs i 0 - 1) ≡ lowered_at (suc i) xs
set-lowered [] i = refl
set-lowered (a ∷ xs) zero = refl
set-lowered (a ∷ xs) (suc i) = ap (λ l. a ∷ l) (set-lowered xs i)

pub length-lowered : (xs : List ℕ) (i : ℕ) → length (lowered_at (suc i) xs) ≡ length xs
length-lowered [] i = refl
length-lowered (a ∷ xs) zero = refl
length-lowered (a ∷ xs) (suc i) = ap suc (length-lowered xs i)

-- a weakly decreasing list remains weakly decreasing if a number greater than the next one is lowered by 1
pub Falls-lowered : (xs : List ℕ) (i : ℕ) → Falls xs → get_or xs (suc i) 0 < get_or xs i 0 → Falls (lowered_at (suc i) xs)
Falls-lowered [] i f h = tt
Falls-lowered (a ∷ []) zero f h = tt
Falls-lowered (a ∷ b ∷ xs) zero f h = (omega arith, f.1)
Falls-lowered (a ∷ []) (suc i) f h = tt
Falls-lowered (a ∷ b ∷ xs) (suc zero) f h = (omega (arith, f.0), Falls-lowered (b ∷ xs) zero f.1 h)
Falls-lowered (a ∷ b ∷ xs) (suc (suc i)) f h = (f.0, Falls-lowered (b ∷ xs) (suc i) f.1 h)

ArePositive-lowered : (xs : List ℕ) (i : ℕ) → ArePositive xs → 1 < get_or xs i 0 → ArePositive (lowered_at (suc i) xs)
ArePositive-lowered [] i p h = tt
ArePositive-lowered (a ∷ xs) zero p h = (omega arith, p.1)
ArePositive-lowered (a ∷ xs) (suc i) p h = (p.0, ArePositive-lowered xs i p.1 h)

-- if all numbers of xs are positive and the one at the index i is more than 1, then after it is lowered by 1 there is no zero at the end of xs
pub lowered_kept :
    (xs : List ℕ) (i : ℕ) → ArePositive xs → 1 < get_or xs i 0
    → without_last_zeros (lowered_at (suc i) xs) ≡ lowered_at (suc i) xs
lowered_kept xs i p h = without_last_zeros-positive (lowered_at (suc i) xs) (ArePositive-lowered xs i p h)

-- if all numbers of xs are positive, and the number at the index i is 1 and greater than the next number (0 after the last), then it is the last
-- number; lowering it by 1 and then removing the zeros at the end removes it
pub lowered_dropped :
    (xs : List ℕ) (i : ℕ) → ArePositive xs → get_or xs (suc i) 0 < get_or xs i 0 → get_or xs i 0 ≡ 1
    → without_last_zeros (lowered_at (suc i) xs) ≡ take (length xs - 1) (lowered_at (suc i) xs)
lowered_dropped [] i p h e = absurd (omega arith)
lowered_dropped (a ∷ []) zero p h e = let z : a - 1 ≡ 0 = omega arith in ap (λ n. in_front n []) z
lowered_dropped (a ∷ b ∷ xs) zero p h e = absurd (omega (arith, p.1.0))
lowered_dropped (a ∷ []) (suc i) p h e = absurd (omega arith)
lowered_dropped (a ∷ b ∷ xs) (suc i) p h e =
    ap (in_front a) (lowered_dropped (b ∷ xs) i p.1 h e)
    ∙ in_front-positive a (take (length (b ∷ xs) - 1) (lowered_at (suc i) (b ∷ xs))) p.0
    ∙ one_more (length xs)
  where
    one_more : (n : ℕ) → a ∷ take (suc n - 1) (lowered_at (suc i) (b ∷ xs)) ≡ take (suc (suc n) - 1) (a ∷ lowered_at (suc i) (b ∷ xs))
    one_more n =
        let e : suc n - 1 ≡ n = omega arith in
        let f : suc n ≡ suc (suc n) - 1 = omega arith in
        ap (λ m. a ∷ take m (lowered_at (suc i) (b ∷ xs))) e
        ∙ ap (λ m. take m (a ∷ lowered_at (suc i) (b ∷ xs))) f

-- if a part that is greater than the next one is lowered by 1, and is removed if it is then 0, the result is a partition with one cell less, and it
-- has at most 512 rows and at most 4096 cells if the old one does
pub HasCells-lowered :
    (parts new : List ℕ) (i cells : ℕ) → HasCells parts cells → get_or parts (suc i) 0 < get_or parts i 0
    → new ≡ without_last_zeros (lowered_at (suc i) parts) → HasCells new (cells - 1)
HasCells-lowered parts new i cells h corner e =
    let limits = h.limits in
    let lowered = lowered_at (suc i) parts in
    let falls = Falls-lowered parts i limits.partition.falls corner in
    let smaller = size-lowered parts i (omega arith) in
    let sizes : size new ≡ size (lowered_at (suc i) parts) = ap size e ∙ size-without_last_zeros lowered in
    let rows : length new ≤ length parts =
    omega (arith, ap length e, length-without_last_zeros lowered, length-lowered parts i) in
    record {
      limits = record {
        partition = subst IsPartition (sym e) (IsPartition-without_last_zeros lowered falls);
        few = omega (arith, limits.few);
        small = omega (arith, limits.small);
      };
      cells_are = omega (arith, h.cells_are);
    }
