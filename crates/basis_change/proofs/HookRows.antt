-- A rim hook that begins in row `count`, below the last row of a partition: the rows in which it can begin, and the rows of the result.
--     value-rows       the result has `count` rows
--     value-far        there is no result if the rim hook of a cells begins more than a rows after the last row
--     total_after-cut  a sum over the rows up to n + 1 is the sum over the rows up to n plus the term of row n + 1, if n + 1 is one of the rows
use Rattle.std.proofs.Common.{◌≡◌, ◌⊎◌, ℕ, zero, suc, ◌+◌, ◌-◌, ◌<◌, ◌≤◌, Bool, true, false, ◌||◌, ◌==◌, cond, nat_le, List, [], ◌∷◌, ◌++◌, map, length, refl, sym, ap, ◌∙◌, inl, inr, arith, length-append, ℤ, pos, ◌+ℤ◌, rules}
use Rattle.std.proofs.lemmas.Int.{ints}
use Rattle.std.proofs.lemmas.Bool.{cases_eq, cases_lt, eq-eqb, or_right, or_left}
use Rattle.std.proofs.lemmas.Bool.Decides.{nat_tests}
use Rattle.std.proofs.lemmas.List.{length-map, get_or_past}
use Rattle.sym_model.specs.Sum.{total}
use Rattle.sym_model.specs.Partition.{ArePositive, rows, part, after}
use Rattle.sym_model.specs.Bases.{has}
use Rattle.sym_model.specs.BetaList.{beta, has_equal_entries, sorted_falling, less_the_rest, from_beta}
use Rattle.sym_model.proofs.Parts.{without_last_zeros-positive}
use Rattle.beta_list_laws.specs.StrictFall.{FallsStrictly}
use Rattle.beta_list_laws.proofs.NeighbourExchanges.{has-sorted, length-sorted}
use Rattle.beta_list_laws.proofs.SortedLists.{sorted_strict}
use Rattle.beta_list_laws.proofs.BetaLists.{strict_tail, length-beta, length-less}
use Rattle.basis_change.specs.SpecialRimHooks.{straight_value, hooked, within_rows}
use Rattle.basis_change.proofs.FrontSorting.{above, value-equal, value-different}
use Rattle.sym_model.proofs.Integers.{nothing_either, times_chosen}
use Rattle.sym_model.proofs.Numbers.{positive-test}
use Rattle.alternant_laws.proofs.StraightShapes.{single}
use Rattle.sym_model.proofs.SortedParts.{has_rest}

-- ---- the number of rows of a partition after a rim hook is added

below_first : (a : ℕ) (b : List ℕ) → FallsStrictly (a ∷ b) → has 0 (a ∷ b) ≡ false → length b < a
below_first zero [] f h = absurd (cc)
below_first (suc a) [] f h = omega arith
below_first a (c ∷ b) f h = search (rules, (below_first c b f.1))

rows_all : (b : List ℕ) → FallsStrictly b → has 0 b ≡ false → ArePositive (less_the_rest b)
rows_all [] f h = tt
rows_all (a ∷ b) f h = (let l = below_first a b f h in omega arith, rows_all b (strict_tail a b f) (later (a == 0) h))
  where
    later : (t : Bool) → (t || has 0 b) ≡ false → has 0 b ≡ false
    later true h = absurd (cc)
    later false h = h

rows-without_zero : (s : List ℕ) → has_equal_entries s ≡ false → has 0 s ≡ false → rows (from_beta (sorted_falling s)) ≡ length s
rows-without_zero s e h = search (rules, without_last_zeros-positive, rows_all, sorted_strict, has-sorted, length-less, length-sorted)

no_zero : (a : ℕ) (s : List ℕ) → 0 < a → has 0 (above a s) ≡ false
no_zero a [] h = ap (λ t. t || false) (positive-test a h)
no_zero a (b ∷ s) h = ap (λ t. t || has 0 (above a s)) (positive-test (suc b) (omega arith)) ∙ no_zero a s h

pub length-hooked : (ν : List ℕ) (count a : ℕ) → 0 < count → length (hooked ν count a) ≡ count
length-hooked ν count a h = search (rules, length-append, length-map, length-beta)

pub rows-hooked : (ν : List ℕ) (count a : ℕ) → 0 < count → 0 < a → has_equal_entries (hooked ν count a) ≡ false → rows (from_beta (sorted_falling (hooked ν count a))) ≡ count
rows-hooked ν count a h p e = rows-without_zero (hooked ν count a) e (no_zero a (beta (count - 1) ν) p) ∙ length-hooked ν count a h

pub value-rows : (n : ℕ) (g : List ℕ → ℤ) (ν : List ℕ) (count a : ℕ) → 0 < count → 0 < a → straight_value (within_rows n g) (hooked ν count a) ≡ cond (nat_le count n) (straight_value g (hooked ν count a)) (pos 0)
value-rows n g ν count a h p = search (rules, value-equal, nothing_either, value-different, rows-hooked, times_chosen)

has-after : (f : ℕ → ℕ) (k b m i : ℕ) → b < i → i ≤ b + m → suc (f i) ≡ k → has k (map suc (map f (after b m))) ≡ true
has-after f k b zero i l h e = absurd (omega arith)
has-after f k b (suc m) i l h e = by (cases_eq i (b + 1)) (λ n. has-after f k (b + 1) m i (omega (arith, n)) (omega arith) e)
  where
    by : (i ≡ b + 1) ⊎ (i ≡ b + 1 → ⊥) → ((i ≡ b + 1 → ⊥) → has k (map suc (map f (after (b + 1) m))) ≡ true) → (suc (f (b + 1)) == k || has k (map suc (map f (after (b + 1) m)))) ≡ true
    by (inl s) r = or_left (suc (f (b + 1)) == k) (has k (map suc (map f (after (b + 1) m)))) (eq-eqb (suc (f (b + 1))) k (ap (λ j. suc (f j)) (sym s) ∙ e))
    by (inr n) r = or_right (suc (f (b + 1)) == k) (has k (map suc (map f (after (b + 1) m)))) (r n)

pub equal-last : (a : ℕ) (front : List ℕ) → has a front ≡ true → has_equal_entries (front ++ a ∷ []) ≡ true
equal-last a [] h = absurd (cc)
equal-last a (b ∷ front) h = by (cases_eq b a) (λ g. equal-last a front g)
  where
    there : (b : ℕ) (front : List ℕ) → b ≡ a → has b (front ++ a ∷ []) ≡ true
    there b [] e = or_left (a == b) false (eq-eqb a b (sym e))
    there b (c ∷ front) e = or_right (c == b) (has b (front ++ a ∷ [])) (there b front e)

    by : (b ≡ a) ⊎ (b ≡ a → ⊥) → (has a front ≡ true → has_equal_entries (front ++ a ∷ []) ≡ true) → (has b (front ++ a ∷ []) || has_equal_entries (front ++ a ∷ [])) ≡ true
    by (inl e) r = or_left (has b (front ++ a ∷ [])) (has_equal_entries (front ++ a ∷ [])) (there b front e)
    by (inr n) r = or_right (has b (front ++ a ∷ [])) (has_equal_entries (front ++ a ∷ [])) (r (has_rest a b front n h))

-- if 0 < a and `count` is greater than the number of rows of ν plus a, the value of g at the straightening of `hooked ν count a` is 0: an empty row
-- of ν has the beta number a, which is then in the list twice
pub value-far : (g : List ℕ → ℤ) (ν : List ℕ) (count a : ℕ) → 0 < a → rows ν + a < count → straight_value g (hooked ν count a) ≡ pos 0
value-far g ν count a p h =
    value-equal g (hooked ν count a)
    (equal-last a (map suc (beta (count - 1) ν))
    (has-after (λ i. part ν i + (count - 1 - i)) a 0 (count - 1) (count - a) (omega arith) (omega arith)
    (let e = get_or_past ν (count - a - 1) 0 (omega arith) in omega arith)))

pub total_after-cut : (v : ℕ → ℤ) (start a n : ℕ) → ((count : ℕ) → start + a < count → v count ≡ pos 0)
    → total (λ (count : ℕ). cond (nat_le count (suc n)) (v count) (pos 0)) (after start a)
    ≡ total (λ (count : ℕ). cond (nat_le count n) (v count) (pos 0)) (after start a) +ℤ cond (nat_le start n) (v (suc n)) (pos 0)
total_after-cut v start zero n h = search rules
total_after-cut v start (suc a) n h =
    let r = total_after-cut v (start + 1) a n (λ count l. h count (omega arith)) in
    let f = first in
    omega (arith, ints)
  where
    first : cond (nat_le (start + 1) (suc n)) (v (start + 1)) (pos 0) +ℤ cond (nat_le (start + 1) n) (v (suc n)) (pos 0)
        ≡ cond (nat_le (start + 1) n) (v (start + 1)) (pos 0) +ℤ cond (nat_le start n) (v (suc n)) (pos 0)
    first = by (cases_lt start n)
      where
        not : (x : ℤ) (t : Bool) → t ≡ false → cond t x (pos 0) ≡ pos 0
        not x t e = rw e refl

        by : (start < n) ⊎ (n ≤ start) → cond (nat_le (start + 1) (suc n)) (v (start + 1)) (pos 0) +ℤ cond (nat_le (start + 1) n) (v (suc n)) (pos 0)
            ≡ cond (nat_le (start + 1) n) (v (start + 1)) (pos 0) +ℤ cond (nat_le start n) (v (suc n)) (pos 0)
        by (inl l) =
            let w = single (nat_le (start + 1) (suc n)) (v (start + 1)) (grind (arith, nat_tests)) in
            let x = single (nat_le (start + 1) n) (v (suc n)) (grind (arith, nat_tests)) in
            let y = single (nat_le (start + 1) n) (v (start + 1)) (grind (arith, nat_tests)) in
            let z = single (nat_le start n) (v (suc n)) (grind (arith, nat_tests)) in
            omega (arith, ints)
        by (inr l) = elim (cases_eq start n) [
          | inl e ↦
              let w = single (nat_le (start + 1) (suc n)) (v (start + 1)) (grind (arith, nat_tests)) in
              let x = not (v (suc n)) (nat_le (start + 1) n) (grind (arith, nat_tests)) in
              let y = not (v (start + 1)) (nat_le (start + 1) n) (grind (arith, nat_tests)) in
              let z = single (nat_le start n) (v (suc n)) (grind (arith, nat_tests)) in
              let u : start + 1 ≡ suc n = omega arith in
              let s = ap v u in
              omega (arith, ints)
          | inr d ↦
              let w = not (v (start + 1)) (nat_le (start + 1) (suc n)) (grind (arith, nat_tests)) in
              let x = not (v (suc n)) (nat_le (start + 1) n) (grind (arith, nat_tests)) in
              let y = not (v (start + 1)) (nat_le (start + 1) n) (grind (arith, nat_tests)) in
              let z = not (v (suc n)) (nat_le start n) (grind (arith, nat_tests)) in
              omega (arith, ints)
        ]
