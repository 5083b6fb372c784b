-- The first of the partitions of a number in decreasing lexicographic order, and the partition that follows a given one.
use Rattle.std.proofs.Common.{◌≡◌, ℕ, zero, suc, ◌+◌, ◌-◌, ◌<◌, ◌≤◌, min, List, [], ◌∷◌, ◌++◌, map, length, sym, ◌∙◌, ap, ap₂, refl, arith, flat_map}
use Rattle.std.proofs.Math.Nat.{min-le_right, le-min, min-eq_left}
use Rattle.sym_model.specs.Partition.{ArePositive, size}
use Rattle.sym_model.specs.PartitionList.{down_to_one, partitions_within}
use Rattle.sym_model.proofs.PartitionLists.{partitions_within-rows}
use Rattle.sym_model.proofs.Parts.{size-append}
use Rattle.partitions.specs.Listing.{greatest_within, partitions_after, AreOnes}

-- ---- the lexicographically greatest partition of d with parts up to `most`

min-positive : (m d : ℕ) → 0 < m → 0 < min m (suc d)
min-positive m d h = let one : 1 ≤ m = omega arith in let other : 1 ≤ suc d = omega arith in le-min one other

pub size-greatest_within :
    (rows d most : ℕ) → d ≤ rows → (0 < d → 0 < most) → size (greatest_within d most rows) ≡ d
unfolding greatest_within
size-greatest_within rows zero most h p = refl
size-greatest_within zero (suc d) most h p = absurd (omega arith)
size-greatest_within (suc rows) (suc d) most h p =
    let a = min most (suc d) in
    let positive : 0 < min most (suc d) = min-positive most d (p (omega arith)) in
    let few = min-le_right most (suc d) in
    let rest = size-greatest_within rows (suc d - min most (suc d)) (min most (suc d)) (omega arith) (λ _. positive) in
    omega arith

pub ArePositive-greatest_within : (rows d most : ℕ) → (0 < d → 0 < most) → ArePositive (greatest_within d most rows)
unfolding greatest_within
ArePositive-greatest_within rows zero most p = tt
ArePositive-greatest_within zero (suc d) most p = tt
ArePositive-greatest_within (suc rows) (suc d) most p =
    let positive : 0 < min most (suc d) = min-positive most d (p (omega arith)) in
    (positive, ArePositive-greatest_within rows (suc d - min most (suc d)) (min most (suc d)) (λ _. positive))

-- let d > 0, rows ≥ 1 and a = min(most, d): the greatest partition of d with parts up to `most` and at most `rows` parts is a, followed by the
-- greatest partition of d - a with parts up to a and at most rows - 1 parts
pub greatest_within-step :
    (d most rows : ℕ) → 0 < d → 0 < rows
    → greatest_within d most rows ≡ min most d ∷ greatest_within (d - min most d) (min most d) (rows - 1)
unfolding greatest_within
greatest_within-step zero most rows h g = absurd (omega arith)
greatest_within-step (suc d) most zero h g = absurd (omega arith)
greatest_within-step (suc d) most (suc rows) h g =
    let e : suc rows - 1 ≡ rows = omega arith in
    ap (λ r. min most (suc d) ∷ greatest_within (suc d - min most (suc d)) (min most (suc d)) r) (sym e)

-- ---- in the list of the partitions of a number, the lexicographically greatest one is the first

partitions_within-none : (rows d : ℕ) → 0 < d → partitions_within d 0 rows ≡ []
unfolding partitions_within
partitions_within-none rows zero h = absurd (omega arith)
partitions_within-none zero (suc d) h = refl
partitions_within-none (suc rows) (suc d) h =
    let none : 0 ≤ suc d = omega arith in
    ap (λ k. flat_map (λ a. map (λ x. a ∷ x) (partitions_within (suc d - a) a rows)) (down_to_one k)) (min-eq_left none)

same_size : (d e m n : ℕ) → d ≡ e → m ≡ n → partitions_within d m d ≡ partitions_within e n e
same_size d e m n p q = ap₂ (λ x y. partitions_within x y x) p q

starts :
    (rows d a : ℕ) (g : List ℕ) → 0 < a → a ≤ suc d → d ≤ rows → size g ≡ suc d - a
    → partitions_within (suc d - a) a rows ≡ g ∷ partitions_after g
    → flat_map (λ b. map (λ x. b ∷ x) (partitions_within (suc d - b) b rows)) (down_to_one a)
    ≡ (a ∷ g) ∷ partitions_after (a ∷ g)
unfolding partitions_after partitions_within
starts rows d zero g p l h s ih = absurd (omega arith)
starts rows d (suc a) g p l h s ih =
    let here : ℕ → List (List ℕ) = λ b. map (λ x. b ∷ x) (partitions_within (suc d - b) b rows) in
    let below : a ≤ suc d = omega arith in
    let whole : suc d ≡ suc a + size g = omega arith in
    let less : a ≡ suc a - 1 = omega arith in
    let smaller : flat_map here (down_to_one a) ≡ partitions_within (suc a + size g) (suc a - 1) (suc a + size g) =
    ap (λ k. flat_map here (down_to_one k)) (sym (min-eq_left below))
    ∙ partitions_within-rows (suc rows) (suc d) (suc d) a (omega arith) (omega arith)
    ∙ same_size _ _ _ _ whole less in
    ap (λ xs. map (λ x. suc a ∷ x) xs ++ flat_map here (down_to_one a)) ih
    ∙ ap (λ xs. (suc a ∷ g) ∷ (map (λ x. suc a ∷ x) (partitions_after g) ++ xs)) smaller

pub partitions_within-first :
    (rows d most : ℕ) → d ≤ rows → (0 < d → 0 < most)
    → partitions_within d most rows ≡ greatest_within d most rows ∷ partitions_after (greatest_within d most rows)
unfolding greatest_within partitions_after partitions_within
partitions_within-first rows zero most h p = refl
partitions_within-first zero (suc d) most h p = absurd (omega arith)
partitions_within-first (suc rows) (suc d) most h p =
    let a = min most (suc d) in
    let positive : 0 < min most (suc d) = min-positive most d (p (omega arith)) in
    let few : min most (suc d) ≤ suc d = min-le_right most (suc d) in
    let room : suc d - min most (suc d) ≤ rows = omega arith in
    starts rows d (min most (suc d)) (greatest_within (suc d - min most (suc d)) (min most (suc d)) rows) positive few (omega arith)
    (size-greatest_within rows (suc d - min most (suc d)) (min most (suc d)) room (λ _. positive))
    (partitions_within-first rows (suc d - min most (suc d)) (min most (suc d)) room (λ _. positive))

-- ---- the partition that follows a given one

pub size-AreOnes : (xs : List ℕ) → AreOnes xs → size xs ≡ length xs
size-AreOnes [] o = refl
size-AreOnes (a ∷ xs) o = omega (arith, o.0, size-AreOnes xs o.1)

-- if all parts are 1, no partition follows in decreasing lexicographic order
pub partitions_after-ones : (xs : List ℕ) → AreOnes xs → partitions_after xs ≡ []
unfolding partitions_after
partitions_after-ones [] o = refl
partitions_after-ones (a ∷ xs) o =
    let less : a - 1 ≡ 0 = omega (arith, o.0) in
    let none : partitions_within (a + size xs) (a - 1) (a + size xs) ≡ [] =
    ap (λ m. partitions_within (a + size xs) m (a + size xs)) less
    ∙ partitions_within-none (a + size xs) (a + size xs) (omega (arith, o.0)) in
    ap₂ (λ xs ys. map (λ x. a ∷ x) xs ++ ys) (partitions_after-ones xs o.1) none

-- if a part a > 1 is followed only by parts 1, the partition that follows a ∷ ones is the greatest one of this size with no part above a - 1
pub partitions_after-part :
    (a rows : ℕ) (ones : List ℕ) → 1 < a → AreOnes ones → a + length ones ≤ rows
    → partitions_after (a ∷ ones)
    ≡ greatest_within (a + length ones) (a - 1) rows ∷ partitions_after (greatest_within (a + length ones) (a - 1) rows)
unfolding partitions_after
partitions_after-part a rows ones h o r =
    let same : a + size ones ≡ a + length ones = ap (λ n. a + n) (size-AreOnes ones o) in
    ap (λ xs. map (λ x. a ∷ x) xs ++ partitions_within (a + size ones) (a - 1) (a + size ones)) (partitions_after-ones ones o)
    ∙ same_size _ _ (a - 1) (a - 1) same refl
    ∙ partitions_within-rows (a + length ones) rows (a + length ones) (a - 1) (omega arith) r
    ∙ partitions_within-first rows (a + length ones) (a - 1) r (λ _. omega arith)

pub ArePositive-append : (xs ys : List ℕ) → ArePositive xs → ArePositive ys → ArePositive (xs ++ ys)
ArePositive-append [] ys p q = q
ArePositive-append (x ∷ xs) ys p q = (p.0, ArePositive-append xs ys p.1 q)

-- if the partition `next` follows `now`, of the same size, then `front ++ next` follows `front ++ now`
pub partitions_after-append :
    (front now next : List ℕ) → partitions_after now ≡ next ∷ partitions_after next → size now ≡ size next
    → partitions_after (front ++ now) ≡ (front ++ next) ∷ partitions_after (front ++ next)
unfolding partitions_after
partitions_after-append [] now next h s = h
partitions_after-append (a ∷ front) now next h s =
    let same : a + size (front ++ now) ≡ a + size (front ++ next) =
    omega (arith, size-append front now, size-append front next) in
    ap (λ xs. map (λ x. a ∷ x) xs ++ partitions_within (a + size (front ++ now)) (a - 1) (a + size (front ++ now)))
    (partitions_after-append front now next h s)
    ∙ ap (λ xs. (a ∷ (front ++ next)) ∷ (map (λ x. a ∷ x) (partitions_after (front ++ next)) ++ xs))
    (same_size _ _ (a - 1) (a - 1) same refl)
