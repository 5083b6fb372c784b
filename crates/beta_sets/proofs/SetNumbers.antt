-- Sets of beta numbers, stored as binary digits (specs/BetaSets): a set from the list of its numbers, subsets, and the first row of its partition.
--     set_of-numbers                          the set of the numbers in a set is this set
--     places-free, places-from, places-below  those numbers in a set that have a given property
--     first_row, no_row                       the first row of the partition of a set
--     same_shape                              sets of n numbers with the same partition are equal
use Rattle.std.proofs.Common.{◌≡◌, ◌⊎◌, ℕ, zero, suc, ◌+◌, ◌-◌, ◌*◌, ◌/◌, ◌%◌, ◌^◌, ◌<◌, ◌≤◌, min, nat_le, Bool, true, false, ◌&&◌, ◌||◌, ◌==◌, cond, List, [], ◌∷◌, ◌++◌, map, filter, length, refl, sym, ap, ap₂, ◌∙◌, inl, inr, arith}
use Rattle.std.specs.Prelude.{nat_eq, nat_lt, not, bit_and}
use Rattle.std.specs.Int.{bit_at, bit_not, w64}
use Rattle.std.proofs.Math.Nat.{pow-le-pow_right}
use Rattle.std.proofs.lemmas.Bool.{cases_lt}
use Rattle.std.proofs.lemmas.Bool.Decides.{nat_tests}
use Rattle.std.proofs.lemmas.Nat.{one_shl, shr-shr, shr_le}
use Rattle.std.proofs.lemmas.Nat.Bits.{bit_at_and, bit_at_not, bit_at_ones, bit_at_above, bit_at-lt, shr_and_one}
use Rattle.sym_model.specs.Bases.{has}
use Rattle.sym_model.specs.BetaList.{beta, from_beta, less_the_rest}
use Rattle.sym_model.specs.Partition.{IsPartition, part, without_last_zeros}
use Rattle.sym_model.proofs.Parts.{in_front-positive}
use Rattle.beta_list_laws.proofs.BetaLists.{beta-from_beta, from_beta_partition, part-from_beta}
use Rattle.partitions.specs.Limits.{IsWithinLimits}
use Rattle.sparse_polys.proofs.PartitionTerms.{IsWithinLimits-low}
use Rattle.beta_sets.specs.BetaSets.{numbers, places, shape, set_of, free, from_place, below_place, IsSplit, IsInRows}
use Rattle.beta_sets.proofs.BinaryPlaces.{lowest, places-suc, places-none, places-top, has-places}
use Rattle.beta_sets.proofs.GreatestPlaces.{places_strict}
use Rattle.sym_model.proofs.Numbers.{power-positive}

-- ---- a set from the list of its numbers

set_of-raised : (xs : List ℕ) (b : Bool) → set_of (map suc xs ++ lowest b) ≡ 2 * set_of xs + cond b 1 0
unfolding set_of
set_of-raised [] true = refl
set_of-raised [] false = refl
set_of-raised (x ∷ xs) b = let r = set_of-raised xs b in let p : 2 ^ suc x ≡ 2 * 2 ^ x = omega arith in omega arith

set_of-nothing : (n : ℕ) → n ≡ 0 → set_of [] ≡ n
unfolding set_of
set_of-nothing n e = sym e

set_of-places : (k n : ℕ) → n < 2 ^ k → set_of (places k n) ≡ n
set_of-places zero n h = ap set_of (places-none n) ∙ set_of-nothing n (omega arith)
set_of-places (suc k) n h =
    let r = set_of-places k (n / 2) (omega arith) in
    let d = digit (n % 2) (let l : n % 2 < 2 = omega arith in l) in
    ap set_of (places-suc k n) ∙ set_of-raised (places k (n / 2)) (nat_eq (n % 2) 1) ∙ (omega arith)
  where
    digit : (r : ℕ) → r < 2 → cond (nat_eq r 1) 1 0 ≡ r
    digit zero l = refl
    digit (suc zero) l = refl
    digit (suc (suc r)) l = absurd (omega arith)

pub set_of-numbers : (set : ℕ) → set < 2 ^ 64 → set_of (numbers set) ≡ set
set_of-numbers set h = set_of-places 64 set h

-- ---- the numbers in a set that pass a test

places-selected : (k : ℕ) (P : ℕ → Bool) (n m : ℕ) → ((a : ℕ) → a < k → nat_eq (bit_at m a) 1 ≡ (nat_eq (bit_at n a) 1 && P a)) → places k m ≡ filter P (places k n)
places-selected zero P n m h = places-none m ∙ sym (ap (filter P) (places-none n))
places-selected (suc k) P n m h =
    places-top k m
    ∙ ap₂ (λ b xs. cond b (k ∷ []) [] ++ xs) (h k (omega arith)) (places-selected k P n m (λ a l. h a (omega arith)))
    ∙ either (nat_eq (bit_at n k) 1) (P k) refl
    ∙ sym (ap (filter P) (places-top k n))
  where
    either : (t b : Bool) → P k ≡ b → cond (t && b) (k ∷ []) [] ++ filter P (places k n) ≡ filter P (cond t (k ∷ []) [] ++ places k n)
    either true b e = head b e
      where
        head : (b : Bool) → P k ≡ b → cond (true && b) (k ∷ []) [] ++ filter P (places k n) ≡ filter P (k ∷ places k n)
        head true e = sym (ap (λ t. cond t (k ∷ filter P (places k n)) (filter P (places k n))) e)
        head false e = sym (ap (λ t. cond t (k ∷ filter P (places k n)) (filter P (places k n))) e)
    either false b e = refl

digit_and : (p q : ℕ) (t : Bool) → p < 2 → q < 2 → nat_eq q 1 ≡ t → nat_eq (min p q) 1 ≡ (nat_eq p 1 && t)
digit_and zero q t l h e = let m : min zero q ≡ zero = omega arith in ap (λ d. nat_eq d 1) m
digit_and (suc zero) zero t l h e = e
digit_and (suc zero) (suc zero) t l h e = e
digit_and (suc zero) (suc (suc q)) t l h e = absurd (omega arith)
digit_and (suc (suc p)) q t l h e = absurd (omega arith)

digit_not : (q : ℕ) → q < 2 → nat_eq (1 - q) 1 ≡ not (nat_eq q 1)
digit_not zero l = refl
digit_not (suc zero) l = refl
digit_not (suc (suc q)) l = absurd (omega arith)

and_selects : (P : ℕ → Bool) (n m : ℕ) → ((a : ℕ) → a < 64 → nat_eq (bit_at m a) 1 ≡ P a) → numbers (bit_and n m) ≡ filter P (numbers n)
and_selects P n m h =
    places-selected 64 P n (bit_and n m)
    (λ a l. ap (λ d. nat_eq d 1) (bit_at_and n m a) ∙ digit_and (bit_at n a) (bit_at m a) (P a) (bit_at-lt n a) (bit_at-lt m a) (h a l))

digit_above : (n a : ℕ) → n < 2 ^ 64 → 64 ≤ a → nat_eq (bit_at n a) 1 ≡ false
digit_above n a h l = ap (λ d. nat_eq d 1) (bit_at_above n 64 a h l)

absent_above : (set a k : ℕ) → k ≤ a → has a (places k set) ≡ false
absent_above set a zero m = ap (has a) (places-none set)
absent_above set a (suc k) m = ap (has a) (places-top k set) ∙ first (nat_eq (bit_at set k) 1) (absent_above set a k (omega arith))
  where
    first : (b : Bool) → has a (places k set) ≡ false → has a (cond b (k ∷ []) [] ++ places k set) ≡ false
    first true r = let e : (k == a) ≡ false = grind (arith, nat_tests) in ap (λ t. t || has a (places k set)) e ∙ r
    first false r = r

has_at : (set a : ℕ) → set < 2 ^ 64 → has a (numbers set) ≡ nat_eq (bit_at set a) 1
has_at set a h = by (cases_lt a 64)
  where
    by : (a < 64) ⊎ (64 ≤ a) → has a (numbers set) ≡ nat_eq (bit_at set a) 1
    by (inl l) = has-places 64 a set l
    by (inr l) = absent_above set a 64 l ∙ sym (digit_above set a h l)

digit_shifted : (n k a : ℕ) → bit_at (n / 2 ^ k) a ≡ bit_at n (a + k)
digit_shifted n k a =
    sym (shr_and_one (n / 2 ^ k) a)
    ∙ ap (λ m. bit_and m 1) (shr-shr n k a ∙ ap (λ j. n / 2 ^ j) (let e : k + a ≡ a + k = omega arith in e))
    ∙ shr_and_one n (a + k)

pub places-free : (k n : ℕ) → n < 2 ^ 64 → numbers (bit_and n (bit_not w64 (n / 2 ^ k))) ≡ free k (numbers n)
places-free k n h = and_selects (λ b. not (has (b + k) (numbers n))) n (bit_not w64 (n / 2 ^ k)) test
  where
    test : (a : ℕ) → a < 64 → nat_eq (bit_at (bit_not w64 (n / 2 ^ k)) a) 1 ≡ not (has (a + k) (numbers n))
    test a l =
        ap (λ d. nat_eq d 1) (bit_at_not w64 (n / 2 ^ k) a (let s = shr_le n k in omega arith) l)
        ∙ digit_not (bit_at (n / 2 ^ k) a) (bit_at-lt (n / 2 ^ k) a)
        ∙ ap (λ d. not (nat_eq d 1)) (digit_shifted n k a)
        ∙ ap not (sym (has_at n (a + k) h))

digit_ones : (place a : ℕ) → nat_eq (bit_at (2 ^ place - 1) a) 1 ≡ nat_lt a place
digit_ones place a = by (cases_lt a place)
  where
    by : (a < place) ⊎ (place ≤ a) → nat_eq (bit_at (2 ^ place - 1) a) 1 ≡ nat_lt a place
    by (inl l) = ap (λ d. nat_eq d 1) (bit_at_ones place a l) ∙ (let e : nat_lt a place ≡ true = grind (arith, nat_tests) in sym e)
    by (inr l) =
        ap (λ d. nat_eq d 1) (bit_at_above (2 ^ place - 1) place a (let p = power-positive 2 place (omega arith) in omega arith) l)
        ∙ (let e : nat_lt a place ≡ false = grind (arith, nat_tests) in sym e)

pub places-below : (place n : ℕ) → place < 64 → numbers (bit_and n (1 * 2 ^ place % 2 ^ 64 - 1)) ≡ below_place place (numbers n)
places-below place n l =
    ap (λ m. numbers (bit_and n (m - 1))) (one_shl place 64 l)
    ∙ and_selects (λ b. nat_lt b place) n (2 ^ place - 1) (λ a h. digit_ones place a)

pub places-from : (place n : ℕ) → place < 64 → numbers (bit_and n (bit_not w64 (1 * 2 ^ place % 2 ^ 64 - 1))) ≡ from_place place (numbers n)
places-from place n l =
    ap (λ m. numbers (bit_and n (bit_not w64 (m - 1)))) (one_shl place 64 l)
    ∙ and_selects (λ b. nat_le place b) n (bit_not w64 (2 ^ place - 1)) test
  where
    test : (a : ℕ) → a < 64 → nat_eq (bit_at (bit_not w64 (2 ^ place - 1)) a) 1 ≡ nat_le place a
    test a h =
        ap (λ d. nat_eq d 1) (bit_at_not w64 (2 ^ place - 1) a (let p = wide place l in omega arith) h)
        ∙ digit_not (bit_at (2 ^ place - 1) a) (bit_at-lt (2 ^ place - 1) a)
        ∙ ap not (digit_ones place a)
        ∙ turned (cases_lt a place)
      where
        wide : (place : ℕ) → place < 64 → 2 ^ place - 1 < 2 ^ 64
        wide place l = let p = pow-le-pow_right {n = 2} (omega arith) {i = place} {j = 64} (omega arith) in let q = pow-le-pow_right {n = 2} (omega arith) {i = 0} {j = place} (omega arith) in omega arith

        turned : (a < place) ⊎ (place ≤ a) → not (nat_lt a place) ≡ nat_le place a
        turned (inl k) = grind (arith, nat_tests)
        turned (inr k) = grind (arith, nat_tests)

-- ---- the first row of the partition of a set

pub count_split : (set b others : ℕ) → IsSplit set b others → length (numbers others) + 1 ≡ length (numbers set)
count_split set b others s = let e = ap length s.numbers in omega arith

shape_split : (set b others : ℕ) → IsSplit set b others → shape set ≡ without_last_zeros ((b - length (numbers others)) ∷ less_the_rest (numbers others))
shape_split set b others s = ap from_beta s.numbers

pub first_row : (set b others : ℕ) → IsSplit set b others → length (numbers set) ≤ b → shape set ≡ (b + 1 - length (numbers set)) ∷ shape others
first_row set b others s l =
    let e = count_split set b others s in
    shape_split set b others s
    ∙ in_front-positive (b - length (numbers others)) (shape others) (omega arith)
    ∙ ap (λ a. a ∷ shape others) (let f : b - length (numbers others) ≡ b + 1 - length (numbers set) = omega arith in f)

no_part : (μ : List ℕ) → IsPartition μ → part μ 1 ≡ 0 → μ ≡ []
no_part [] p e = refl
no_part (a ∷ μ) p e = let h = p.positive.0 in absurd (omega arith)

pub no_row : (set b others : ℕ) → IsSplit set b others → b < length (numbers set) → shape set ≡ []
no_row set b others s z =
    let e = count_split set b others s in
    no_part (shape set) (from_beta_partition (numbers set) (places_strict 64 set))
    (part-from_beta (numbers set) 1 ∙ ap (λ l. part (less_the_rest l) 1) s.numbers ∙ (let f : b - length (numbers others) ≡ 0 = omega arith in f))

-- the numbers in a set of n numbers are the beta list, with n entries, of the partition of this set
pub beads_of : (n set : ℕ) → length (numbers set) ≡ n → beta n (shape set) ≡ numbers set
beads_of n set e = ap (λ j. beta j (shape set)) (sym e) ∙ beta-from_beta (numbers set) (places_strict 64 set)

pub same_shape : (n d a b : ℕ) → IsInRows n d a → IsInRows n d b → shape a ≡ shape b → a ≡ b
same_shape n d a b r s e =
    sym (set_of-numbers a r.word)
    ∙ ap set_of (sym (beads_of n a r.rows) ∙ ap (beta n) e ∙ beads_of n b s.rows)
    ∙ set_of-numbers b s.word

pub rows_limits : (set : ℕ) → IsInRows 20 20 set → IsWithinLimits (shape set)
rows_limits set r = let c = r.cells in IsWithinLimits-low (shape set) (from_beta_partition (numbers set) (places_strict 64 set)) (omega arith)
