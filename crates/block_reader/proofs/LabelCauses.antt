-- The reasons why a list of numbers is not the label of a term, that is, not a partition, the exponents of a monomial or the letters of a
-- permutation, within the limits.
use Rattle.std.proofs.Common.{◌≡◌, ℕ, zero, suc, ◌+◌, ◌-◌, ◌^◌, ◌≤◌, ◌<◌, length, arith, List, [], ◌∷◌, ◌++◌, append-nil, length-append, ◌&&◌, ◌==◌, true, false, Option, Some, None, sym, ◌∙◌, ap, subst, take, inl, inr}
use Rattle.std.specs.Prelude.{slice_index, MatchOption, not, nat_lt, nat_le}
use Rattle.std.proofs.lemmas.Bool.{and_parts, leb-true, ltb-true, eq-eqb, false_from_ne_true, not-true, or_parts}
use Rattle.sym_model.specs.Sum.{Among}
use Rattle.sym_model.specs.Polynomial.{same}
use Rattle.sym_model.specs.Bases.{has}
use Rattle.sym_model.specs.BetaList.{has_equal_entries}
use Rattle.sym_model.specs.Partition.{Falls, size, rows, without_last_zeros}
use Rattle.sym_model.specs.Partition.{after}
use Rattle.sym_model.proofs.AfterLists.{length_after}
use Rattle.schubert_laws.proofs.LowerPermutations.{kept_whole}
use Rattle.sym_model.specs.Permutation.{kept}
use Rattle.sym_model.specs.LabelLimits.{is_label, are_letters, is_permutation_label, is_monomial_label}
use Rattle.sym_model.proofs.Exponents.{same_true}
use Rattle.sym_model.proofs.Orders.{is_label-tells}
use Rattle.sym_model.proofs.Parts.{without_last_zeros-positive}
use Rattle.partitions.specs.Limits.{RisesFirstAt}
use Rattle.perm_codes.specs.Limits.{OffendsFirstAt}
use Rattle.block_reader.specs.Parts.{AreSmall}

pub at_none : {A : Type 0} (P : Type 0) (Q : A → Type 0) (o : Option A) → o ≡ None → MatchOption o P Q → P
at_none P Q None e h = h
at_none P Q (Some x) e h = cc

-- ---- lists of numbers that are not a partition within the limits

falls-at : (parts : List ℕ) (k : ℕ) → Falls parts → slice_index parts (suc k) ≤ slice_index parts k
falls-at [] k f = omega arith
falls-at (a ∷ []) k f = omega arith
falls-at (a ∷ b ∷ parts) zero f = f.0
falls-at (a ∷ b ∷ parts) (suc k) f = falls-at (b ∷ parts) k f.1

pub not_label-cut : (parts : List ℕ) → (without_last_zeros parts ≡ parts → ⊥) → is_label parts ≡ false
not_label-cut parts other = false_from_ne_true (is_label parts) (λ h. other (without_last_zeros-positive parts (is_label-tells parts h).partition.positive))

pub not_label-many : (parts : List ℕ) → 512 < rows (without_last_zeros parts) → is_label parts ≡ false
not_label-many parts many = false_from_ne_true (is_label parts) (λ h.
    let l = is_label-tells parts h in
    let e : length (without_last_zeros parts) ≡ length parts = ap length (without_last_zeros-positive parts l.partition.positive) in
    let few = l.rows in
    omega arith)

pub not_label-rising : (parts : List ℕ) (at : ℕ) → RisesFirstAt (without_last_zeros parts) at → is_label parts ≡ false
not_label-rising parts at rising = false_from_ne_true (is_label parts) (λ h.
    let l = is_label-tells parts h in
    let r : RisesFirstAt parts at = subst (λ (ps : List ℕ). RisesFirstAt ps at) (without_last_zeros-positive parts l.partition.positive) rising in
    falls_not parts at r.later r.rises l.partition.falls)
  where
    falls_not : (parts : List ℕ) (at : ℕ) → 0 < at → slice_index parts (at - 1) < slice_index parts at → Falls parts → ⊥
    falls_not parts zero later rises f = omega arith
    falls_not parts (suc k) later rises f =
        let e : suc k - 1 ≡ k = omega arith in
        let low : slice_index parts k < slice_index parts (suc k) = subst (λ n. slice_index parts n < slice_index parts (suc k)) e rises in
        let h = falls-at parts k f in omega arith

pub not_label-big : (parts : List ℕ) → 4096 < size (without_last_zeros parts) → is_label parts ≡ false
not_label-big parts big = false_from_ne_true (is_label parts) (λ h.
    let l = is_label-tells parts h in
    let e : size (without_last_zeros parts) ≡ size parts = ap size (without_last_zeros-positive parts l.partition.positive) in
    let small = l.size in
    omega arith)

small-from_size : (numbers : List ℕ) → size numbers < 2 ^ 16 → AreSmall numbers
small-from_size [] h = tt
small-from_size (a ∷ numbers) h = (omega arith, small-from_size numbers (omega arith))

pub not_label-numbers : (parts : List ℕ) → (AreSmall parts → ⊥) → is_label parts ≡ false
not_label-numbers parts large = false_from_ne_true (is_label parts) (λ h. let small = (is_label-tells parts h).size in large (small-from_size parts (omega arith)))

-- ---- lists of numbers that are not the exponents of a monomial within the limits

record IsMonomial (e : List ℕ) : Type 0 where
  whole : without_last_zeros e ≡ e
  few : length e ≤ 255
  small : size e ≤ 32385

monomial-tells : (e : List ℕ) → is_monomial_label e ≡ true → IsMonomial e
monomial-tells e h =
    let p = and_parts (same (without_last_zeros e) e && nat_le (length e) 255) (nat_le (size e) 32385) h in
    let q = and_parts (same (without_last_zeros e) e) (nat_le (length e) 255) p.0 in
    record { whole = same_true (without_last_zeros e) e q.0; few = leb-true (length e) 255 q.1; small = leb-true (size e) 32385 p.1 }

pub not_monomial-cut : (e : List ℕ) → (without_last_zeros e ≡ e → ⊥) → is_monomial_label e ≡ false
not_monomial-cut e other = false_from_ne_true (is_monomial_label e) (λ h. other (monomial-tells e h).whole)

pub not_monomial-many : (e : List ℕ) → 255 < length (without_last_zeros e) → is_monomial_label e ≡ false
not_monomial-many e many = false_from_ne_true (is_monomial_label e) (λ h.
    let m = monomial-tells e h in
    let same_long : length (without_last_zeros e) ≡ length e = ap length m.whole in
    let few = m.few in
    omega arith)

pub not_monomial-big : (e : List ℕ) → 32385 < size (without_last_zeros e) → is_monomial_label e ≡ false
not_monomial-big e big = false_from_ne_true (is_monomial_label e) (λ h.
    let m = monomial-tells e h in
    let same_size : size (without_last_zeros e) ≡ size e = ap size m.whole in
    let small = m.small in
    omega arith)

pub not_monomial-numbers : (e : List ℕ) → (AreSmall e → ⊥) → is_monomial_label e ≡ false
not_monomial-numbers e large = false_from_ne_true (is_monomial_label e) (λ h. let small = (monomial-tells e h).small in large (small-from_size e (omega arith)))

-- ---- lists of numbers that are not the letters of a permutation within the limits

record IsKeptLetters (w : List ℕ) : Type 0 where
  letters : are_letters (length w) w ≡ true
  apart : has_equal_entries w ≡ false
  some : 0 < length w
  whole : kept w ≡ w
  few : length w ≤ 255

permutation-tells : (w : List ℕ) → is_permutation_label w ≡ true → IsKeptLetters w
permutation-tells w h =
    let p = and_parts _ (nat_le (length w) 255) h in
    let q = and_parts _ (same (kept w) w) p.0 in
    let r = and_parts _ (nat_lt 0 (length w)) q.0 in
    let s = and_parts (are_letters (length w) w) (not (has_equal_entries w)) r.0 in
    record {
      letters = s.0;
      apart = not-true (has_equal_entries w) s.1;
      some = ltb-true 0 (length w) r.1;
      whole = same_true (kept w) w q.1;
      few = leb-true (length w) 255 p.1;
    }

letter-at : (n : ℕ) (w : List ℕ) (at : ℕ) → are_letters n w ≡ true → at < length w → (1 ≤ slice_index w at) × (slice_index w at ≤ n)
letter-at n [] at h below = absurd (omega arith)
letter-at n (a ∷ w) zero h below =
    let p = and_parts (nat_le 1 a && nat_le a n) (are_letters n w) h in
    let q = and_parts (nat_le 1 a) (nat_le a n) p.0 in
    (leb-true 1 a q.0, leb-true a n q.1)
letter-at n (a ∷ w) (suc at) h below = letter-at n w at (and_parts (nat_le 1 a && nat_le a n) (are_letters n w) h).1 (omega arith)

has-at : (a : ℕ) (w : List ℕ) (k : ℕ) → k < length w → slice_index w k ≡ a → has a w ≡ false → ⊥
has-at a [] k below e h = omega arith
has-at a (b ∷ w) zero below e h = let clash : true ≡ false = sym (eq-eqb b a e) ∙ (or_parts (b == a) (has a w) h).0 in cc
has-at a (b ∷ w) (suc k) below e h = has-at a w k (omega arith) e (or_parts (b == a) (has a w) h).1

new-at : (w : List ℕ) (at : ℕ) → has_equal_entries w ≡ false → at < length w → Among (slice_index w at) (take at w) → ⊥
new-at [] at h below m = omega arith
new-at (a ∷ w) zero h below m = m
new-at (a ∷ w) (suc at) h below (inl e) = has-at a w at (omega arith) e (or_parts (has a w) (has_equal_entries w) h).0
new-at (a ∷ w) (suc at) h below (inr m) = new-at w at (or_parts (has a w) (has_equal_entries w) h).1 (omega arith) m

pub not_permutation-cut : (w : List ℕ) → (kept w ≡ w → ⊥) → is_permutation_label w ≡ false
not_permutation-cut w other = false_from_ne_true (is_permutation_label w) (λ h. other (permutation-tells w h).whole)

pub not_permutation-letter : (w : List ℕ) (at : ℕ) → OffendsFirstAt w at → is_permutation_label w ≡ false
not_permutation-letter w at offence = false_from_ne_true (is_permutation_label w) (λ h.
    let p = permutation-tells w h in
    let l = letter-at (length w) w at p.letters offence.inside in
    offence.offends (record { positive = l.0; within = l.1; new = new-at w at p.apart offence.inside }))

letters-small : (n : ℕ) (w : List ℕ) → n ≤ 255 → are_letters n w ≡ true → AreSmall w
letters-small n [] low h = tt
letters-small n (a ∷ w) low h =
    let p = and_parts (nat_le 1 a && nat_le a n) (are_letters n w) h in
    let below : a ≤ n = leb-true a n (and_parts (nat_le 1 a) (nat_le a n) p.0).1 in
    (omega arith, letters-small n w low p.1)

pub not_permutation-numbers : (w : List ℕ) → (AreSmall w → ⊥) → is_permutation_label w ≡ false
not_permutation-numbers w large = false_from_ne_true (is_permutation_label w) (λ h.
    let p = permutation-tells w h in large (letters-small (length w) w p.few p.letters))

pub kept-long : (w : List ℕ) → length (kept w) ≡ length w → kept w ≡ w
kept-long w long =
    let t = kept_whole w in
    let total : length w ≡ length (kept w) + length (after (length (kept w)) t.0) = ap length t.1 ∙ length-append (kept w) (after (length (kept w)) t.0) in
    let none : t.0 ≡ 0 = omega (arith, length_after (length (kept w)) t.0) in
    sym (t.1 ∙ ap (λ k. kept w ++ after (length (kept w)) k) none ∙ append-nil (kept w))
