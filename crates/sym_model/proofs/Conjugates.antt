-- The conjugate of a partition λ, the list whose entry j is the number of parts of λ that are at least j: it is a
-- partition of the same size as λ.
use Rattle.std.proofs.Common.{◌≡◌, ◌⊎◌, leb, eqb, sym, ap, ap₂, refl, ℕ, zero, suc, ◌+◌, ◌-◌, ◌<◌, ◌≤◌, nat_le, Bool, true, false, cond, List, [], ◌∷◌, map, length, get_or, ◌∙◌, inl, inr, arith, rules}
use Rattle.std.proofs.lemmas.Bool.{cases_lt, cases_eq, le-leb, lt-leb, eq-eqb, ne_eqb}
use Rattle.sym_model.specs.Sum.{Among}
use Rattle.sym_model.specs.Schur.{times_in}
use Rattle.std.proofs.lemmas.List.{length-map}
use Rattle.sym_model.specs.Partition.{IsPartition, Falls, ArePositive, size, columns, after}
use Rattle.sym_model.specs.Conjugate.{count_from, conjugate}
use Rattle.sym_model.proofs.SortedParts.{Falls_tail}
use Rattle.sym_model.proofs.AfterLists.{length_after}
use Rattle.sym_model.proofs.Parts.{size-map_add, size-map_none}

pub under_first : (a : ℕ) (parts : List ℕ) (r : ℕ) → Falls (a ∷ parts) → get_or parts r 0 ≤ a
under_first a [] r f = omega arith
under_first a (b ∷ parts) zero f = f.0
under_first a (b ∷ parts) (suc r) f = omega (arith, under_first b parts r f.1, f.0)

pub one_at_most : (b : Bool) → cond b 1 0 ≤ 1
one_at_most true = omega arith
one_at_most false = omega arith

pub count_from-most : (j : ℕ) (parts : List ℕ) (r : ℕ) → Falls parts → get_or parts r 0 < j → count_from j parts ≤ r
count_from-most j [] r f h = omega arith
count_from-most j (a ∷ parts) zero f h =
    rw (lt-leb j a h) (omega (arith, count_from-most j parts 0 (Falls_tail a parts f) (omega (arith, under_first a parts 0 f))))
count_from-most j (a ∷ parts) (suc r) f h =
    omega (arith, one_at_most (nat_le j a), count_from-most j parts r (Falls_tail a parts f) h)

pub count_from-least : (j : ℕ) (parts : List ℕ) (r : ℕ) → Falls parts → r < length parts → j ≤ get_or parts r 0 → suc r ≤ count_from j parts
count_from-least j [] r f l h = absurd (omega arith)
count_from-least j (a ∷ parts) zero f l h = rw (le-leb j a h) (omega arith)
count_from-least j (a ∷ parts) (suc r) f l h =
    rw (le-leb j a (omega (arith, under_first a parts r f)))
    (omega (arith, count_from-least j parts r (Falls_tail a parts f) (omega arith) h))

pub count_from-bound : (j : ℕ) (parts : List ℕ) → count_from j parts ≤ length parts
count_from-bound j [] = omega arith
count_from-bound j (a ∷ parts) = omega (arith, one_at_most (nat_le j a), count_from-bound j parts)

reaches_less : (a j k : ℕ) → j ≤ k → cond (nat_le k a) 1 0 ≤ cond (nat_le j a) 1 0
reaches_less a j k h = search rules

pub count_from-falls : (parts : List ℕ) (j k : ℕ) → j ≤ k → count_from k parts ≤ count_from j parts
count_from-falls [] j k h = omega arith
count_from-falls (a ∷ parts) j k h = omega (arith, reaches_less a j k h, count_from-falls parts j k h)

ones_until : (a s c : ℕ) → a ≤ s + c → size (map (λ j. cond (nat_le j a) 1 0) (after s c)) ≡ a - s
ones_until a s zero h = omega arith
ones_until a s (suc c) h = search (rules, cases_lt, lt-leb, le-leb, (ones_until a (s + 1) c (omega arith)))

pub size-counts : (c : ℕ) (parts : List ℕ) → ((r : ℕ) → get_or parts r 0 ≤ c) → size (map (λ j. count_from j parts) (after 0 c)) ≡ size parts
size-counts c [] h = size-map_none (after 0 c)
size-counts c (a ∷ parts) h =
    omega (
      arith,
      size-map_add (λ j. cond (nat_le j a) 1 0) (λ j. count_from j parts) (after 0 c),
      ones_until a 0 c (omega (arith, h 0)),
      size-counts c parts (λ r. h (suc r)),
    )

falls_after : (f : ℕ → ℕ) (a k : ℕ) → ((i j : ℕ) → i ≤ j → f j ≤ f i) → Falls (map f (after a k))
falls_after f a zero h = tt
falls_after f a (suc zero) h = tt
falls_after f a (suc (suc k)) h = (h (a + 1) (a + 1 + 1) (omega arith), falls_after f (a + 1) (suc k) h)

positive_after : (f : ℕ → ℕ) (a k : ℕ) → ((i : ℕ) → i ≤ a + k → 0 < f i) → ArePositive (map f (after a k))
positive_after f a zero h = tt
positive_after f a (suc k) h = (h (a + 1) (omega arith), positive_after f (a + 1) k (λ i l. h i (omega arith)))

pub IsPartition-conjugate : (parts : List ℕ) → Falls parts → IsPartition (conjugate parts)
IsPartition-conjugate [] f = record { falls = tt; positive = tt }
IsPartition-conjugate (a ∷ parts) f = record {
  falls = falls_after (λ j. count_from j (a ∷ parts)) 0 a (λ i j h. count_from-falls (a ∷ parts) i j h);
  positive = positive_after (λ j. count_from j (a ∷ parts)) 0 a
      (λ i l. let one = count_from-least i (a ∷ parts) 0 f (omega arith) (omega arith) in omega (arith, one));
}

pub rows-conjugate : (parts : List ℕ) → length (conjugate parts) ≡ columns parts
rows-conjugate parts = length-map (after 0 (columns parts)) (λ j. count_from j parts) ∙ length_after 0 (columns parts)

pub under_columns : (parts : List ℕ) → Falls parts → (r : ℕ) → get_or parts r 0 ≤ columns parts
under_columns [] f r = omega arith
under_columns (a ∷ parts) f zero = omega arith
under_columns (a ∷ parts) f (suc r) = under_first a parts r f

pub size-conjugate : (parts : List ℕ) → Falls parts → size (conjugate parts) ≡ size parts
size-conjugate parts f = size-counts (columns parts) parts (under_columns parts f)

-- if no number of the list is greater than v, the number of its entries that are at least v is the number of those
-- equal to v
pub count_from-greatest : (v : ℕ) (numbers : List ℕ) → ((w : ℕ) → Among w numbers → w ≤ v) → count_from v numbers ≡ times_in v numbers
count_from-greatest v [] h = refl
count_from-greatest v (w ∷ numbers) h = ap₂ (λ (a b : ℕ). a + b) (by (cases_eq w v)) (count_from-greatest v numbers (λ u m. h u (inr m)))
  where
    by : (w ≡ v) ⊎ (w ≡ v → ⊥) → cond {A = ℕ} (leb v w) 1 0 ≡ cond {A = ℕ} (eqb w v) 1 0
    by (inl e) = ap (λ b. cond {A = ℕ} b 1 0) (le-leb v w (omega arith) ∙ sym (eq-eqb w v e))
    by (inr n) = let l = h w (inl refl) in ap (λ b. cond {A = ℕ} b 1 0) (lt-leb v w (omega arith) ∙ sym (ne_eqb w v n))
