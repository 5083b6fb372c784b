-- A set of letters as the binary digits of a number, with the digit i for the letter i + 1: the letters that can be added to a sum (`MarksFree`).
-- Here a *sum* is a list of numbers. Adding the letter b ≥ 1 to a sum raises its number at the index b - 1 by 1, and adding the letter 0 changes
-- nothing.
use Rattle.std.proofs.Common.{◌≡◌, ◌≢◌, ℕ, zero, suc, ◌+◌, ◌-◌, ◌*◌, ◌/◌, ◌%◌, ◌^◌, ◌<◌, ◌≤◌, ◌==◌, ◌⊎◌, inl, inr, nat_le, nat_lt, Bool, true, false, cond, ◌&&◌, ◌||◌, List, [], ◌∷◌, ◌++◌, length, take, get_or, refl, sym, ap, ap₂, ◌∙◌, arith, w64, rules}
use Rattle.std.specs.Int.{bit_at, from_bool}
use Rattle.std.specs.Prelude.{bit_or}
use Rattle.std.proofs.lemmas.Bool.{ne_eqb, lt-ltb, cases_lt, cases_eq, and_parts, leb-true}
use Rattle.std.proofs.lemmas.List.{get_or-set_same, get_or_append_left}
use Rattle.std.specs.Int.Count.{count_trailing_zeros, trailing_of_zero}
use Rattle.std.proofs.lemmas.Nat.{shr-shr}
use Rattle.std.proofs.Math.Nat.{div-le_self}
use Rattle.std.proofs.lemmas.Nat.Bits.{bit_at-trailing_zeros, bit_at-zero, bit_at_or, bit_at_set_same, bit_at_set_other}
use Rattle.sym_model.specs.GoodTableau.{is_falling}
use Rattle.lr_product.specs.Extension.{raised, mark, extended, least_letter, letters_end, can_rise}
use Rattle.lr_product.specs.MarksFree.{MarksFree}
use Rattle.lr_product.proofs.Raising.{length-raised, raised-set}

-- ---- the numbers of a sum after a letter is added

get-raised_after : (b j : ℕ) (s : List ℕ) → b ≤ j → get_or (raised b s) j 0 ≡ get_or s j 0
get-raised_after zero j s h = refl
get-raised_after (suc b) j [] h = refl
get-raised_after (suc b) zero (a ∷ s) h = absurd (omega arith)
get-raised_after (suc zero) (suc j) (a ∷ s) h = refl
get-raised_after (suc (suc b)) (suc j) (a ∷ s) h = get-raised_after (suc b) j s (omega arith)

get-placed : (b j : ℕ) (s w : List ℕ) → b ≤ j → j < length s → get_or (raised b s ++ w) j 0 ≡ get_or s j 0
get-placed b j s w h l = get_or_append_left (raised b s) w 0 j (let r = length-raised b s in omega arith) ∙ get-raised_after b j s h

-- whether the entry of the sum s at the index i is less than the entry of the bound at i, or the bound has no entry at i
abbrev allowed : List ℕ → ℕ → List ℕ → Bool
allowed bound i s = nat_le (length bound) i || nat_lt (get_or s i 0) (get_or bound i 0)

rise-later : (bound : List ℕ) (b i : ℕ) (s w : List ℕ) → b ≤ i → i < length s → (b ≡ i → b ≡ 0) → can_rise bound i (raised b s ++ w) ≡ can_rise bound i s
rise-later bound b zero s w h l e = ap (λ x. (nat_le (length bound) 0 || nat_lt x (get_or bound 0 0))) (get-placed b 0 s w h l)
rise-later bound b (suc i) s w h l e =
    let below = before (cases_lt b (suc i)) in
    ap₂ (λ x y. ((suc i == 0) || nat_lt x y) && (nat_le (length bound) (suc i) || nat_lt x (get_or bound (suc i) 0)))
    (get-placed b (suc i) s w h l) (get-placed b (suc i - 1) s w below (omega arith))
  where
    before : (b < suc i) ⊎ (suc i ≤ b) → b ≤ suc i - 1
    before (inl q) = omega arith
    before (inr q) = let z = e (omega arith) in absurd (omega arith)

falls_at : (n i : ℕ) (s : List ℕ) → suc i < n → n ≤ length s → is_falling (take n s) ≡ true → get_or s (suc i) 0 ≤ get_or s i 0
falls_at zero i s h l falls = absurd (omega arith)
falls_at (suc zero) i s h l falls = absurd (omega arith)
falls_at (suc (suc n)) i [] h l falls = absurd (omega arith)
falls_at (suc (suc n)) i (a ∷ []) h l falls = absurd (omega arith)
falls_at (suc (suc n)) zero (a ∷ b ∷ s) h l falls = leb-true b a (and_parts (nat_le b a) (is_falling (b ∷ take n s)) falls).0
falls_at (suc (suc n)) (suc i) (a ∷ b ∷ s) h l falls =
    falls_at (suc n) i (b ∷ s) (omega arith) (omega arith) (and_parts (nat_le b a) (is_falling (b ∷ take n s)) falls).1

rise-next : (n : ℕ) (bound : List ℕ) (i : ℕ) (s w : List ℕ) → suc i < n → n ≤ length s → is_falling (take n s) ≡ true
    → can_rise bound (suc i) (raised (suc i) s ++ w) ≡ allowed bound (suc i) s
rise-next n bound i s w h l falls =
    let one : suc i - 1 ≡ i = omega arith in
    let same = get-placed (suc i) (suc i) s w (omega arith) (omega arith) in
    let more : get_or (raised (suc i) s ++ w) i 0 ≡ get_or s i 0 + 1 = get_or_append_left (raised (suc i) s) w 0 i (let r = length-raised (suc i) s in omega arith) ∙ ap (λ x. get_or x i 0) (sym (raised-set i s)) ∙ get_or-set_same s i (get_or s i 0 + 1) 0 (omega arith) in
    let le = falls_at n i s h l falls in
    ap₂ (λ x y. ((suc i == 0) || nat_lt x y) && allowed bound (suc i) (raised (suc i) s ++ w)) same (ap (λ j. get_or (raised (suc i) s ++ w) j 0) one ∙ more)
    ∙ ap₂ (λ (p q : Bool). (p || nat_lt (get_or s (suc i) 0) (get_or s i 0 + 1)) && q) (ne_eqb (suc i) 0 (λ q. absurd (omega arith)))
    (ap (λ x. nat_le (length bound) (suc i) || nat_lt x (get_or bound (suc i) 0)) same)
    ∙ ap (λ t. t && allowed bound (suc i) s) (lt-ltb (get_or s (suc i) 0) (get_or s i 0 + 1) (omega arith))

allowed-placed : (bound : List ℕ) (b : ℕ) (s w t : List ℕ) → t ≡ raised b s ++ w → b < length s → allowed bound b t ≡ allowed bound b s
allowed-placed bound b s w t is l =
    ap (λ x. nat_le (length bound) b || nat_lt x (get_or bound b 0)) (ap (λ x. get_or x b 0) is ∙ get-placed b b s w (omega arith) l)

and-last : (p q r : Bool) → q ≡ r → r ≡ false → p && q ≡ false
and-last true q r e f = e ∙ f
and-last false q r e f = refl

module _ (n above b : ℕ) (bound s w t : List ℕ) (free : ℕ) (is : t ≡ raised b s ++ w) (long : n ≤ length s) (falls : is_falling (take n s) ≡ true) (low : above ≤ b) (marks : MarksFree n above bound s free) where
  placed-digits : (new : ℕ) → ((i : ℕ) → i ≢ b → bit_at new i ≡ bit_at free i) → (b ≡ 0 → bit_at new b ≡ bit_at free b)
      → (0 < b → b < n → b < 64 → bit_at new b ≡ cond (allowed bound b s) 1 0) → MarksFree n b bound t new
  placed-digits new others first next = record { digits = λ i h k m. each i (cases_eq i b) h k m ∙ ap (λ x. cond (can_rise bound i x) 1 0) (sym is) }
    where
      later : (i : ℕ) → bit_at new i ≡ bit_at free i → (b ≡ i → b ≡ 0) → b ≤ i → i < n → i < 64 → bit_at new i ≡ cond (can_rise bound i (raised b s ++ w)) 1 0
      later i e z h k m = e ∙ marks.digits i (omega arith) k m ∙ ap (λ r. cond r 1 0) (sym (rise-later bound b i s w h (omega arith) z))

      here : (x : ℕ) → x ≡ b → b < n → b < 64 → bit_at new b ≡ cond (can_rise bound b (raised b s ++ w)) 1 0
      here zero e k m = later b (first (sym e)) (λ q. sym e) (omega arith) k m
      here (suc x) e k m =
          next (omega arith) k m ∙ ap (λ j. cond (allowed bound j s) 1 0) (sym e)
          ∙ ap (λ r. cond r 1 0) (sym (rise-next n bound x s w (omega arith) long falls))
          ∙ ap (λ j. cond (can_rise bound j (raised j s ++ w)) 1 0) e

      each : (i : ℕ) → (i ≡ b) ⊎ (i ≡ b → ⊥) → b ≤ i → i < n → i < 64 → bit_at new i ≡ cond (can_rise bound i (raised b s ++ w)) 1 0
      each i (inl e) h k m =
          ap (bit_at new) e ∙ here b refl (omega arith) (omega arith) ∙ ap (λ j. cond (can_rise bound j (raised b s ++ w)) 1 0) (sym e)
      each i (inr d) h k m = later i (others i d) (λ e. absurd (d (sym e))) h k m

  pub free-unchanged : (0 < b → b < 64 → allowed bound b t ≡ false) → MarksFree n b bound t free
  free-unchanged refused =
      placed-digits free (λ i d. refl) (λ z. refl)
      (λ p k m. marks.digits b low k m
      ∙ ap (λ r. cond r 1 0) (and-last ((b == 0) || nat_lt (get_or s b 0) (get_or s (b - 1) 0)) (allowed bound b s) (allowed bound b t) (sym (allowed-placed bound b s w t is (omega arith))) (refused p m)
      ∙ sym (sym (allowed-placed bound b s w t is (omega arith)) ∙ refused p m)))

  pub free-added : 0 < b → b < 64 → allowed bound b t ≡ true → MarksFree n b bound t (bit_or free (1 * 2 ^ b % 2 ^ 64))
  free-added p m able =
      placed-digits (bit_or free (1 * 2 ^ b % 2 ^ 64)) (λ i d. bit_at_set_other w64 free b m i d) (λ z. absurd (omega arith))
      (λ q k h. bit_at_set_same w64 free b m ∙ ap (λ r. cond r 1 0) (sym (sym (allowed-placed bound b s w t is (omega arith)) ∙ able)))

pub above_place : (m : ℕ) (cell : Bool) (right : List ℕ) (above b : ℕ) → least_letter cell above ≤ b → b < letters_end m cell right above → above ≤ b
above_place m true right above b h l = omega arith
above_place m false right zero b h l = omega arith
above_place m false right (suc above) b h l =
    let e : letters_end m false right (suc above) ≡ 0 = ap (λ t. cond t 1 0) (ne_eqb (suc above) 0 (λ q. absurd (omega arith))) in absurd (omega arith)

-- let `above` be the letter above the first place of a column, and let `right` begin with the right neighbour of this place. If the place is a cell
-- and its right neighbour is above + 1 ≤ n, then above + 1 is the only letter allowed there. So the sum `extended` over the ways to fill the column
-- is the same after this letter is placed
pub only-letter : (kept : Bool) (n : ℕ) (line rest : List Bool) (right others : List ℕ) (above : ℕ) (f : List ℕ → List ℕ → ℕ) (s t : List ℕ) → above < n
    → line ≡ true ∷ rest → right ≡ (above + 1) ∷ others → t ≡ raised (above + 1) s ++ mark kept (above + 1)
    → extended kept n line right above f s ≡ extended kept n rest others (above + 1) f t
only-letter kept n line rest right others above f s t h l r p = search rules

-- ---- the least letter of a set among those that are at least a given letter

bit_at-shifted : (free k i : ℕ) → bit_at (free / 2 ^ k) i ≡ bit_at free (k + i)
bit_at-shifted free k i = ap (λ x. x % 2) (shr-shr free k i)

zeros-below : (w i : ℕ) → w < 2 ^ 64 → i < count_trailing_zeros 64 w → bit_at w i ≡ 0
zeros-below zero i h l = bit_at-zero i
zeros-below (suc w) i h l = (bit_at-trailing_zeros w64 (suc w) (omega arith) h).2 i l

one-there : (w : ℕ) → w < 2 ^ 64 → count_trailing_zeros 64 w < 64 → bit_at w (count_trailing_zeros 64 w) ≡ 1
one-there zero h l = absurd (let e : count_trailing_zeros 64 0 ≡ 64 = trailing_of_zero 64 in omega arith)
one-there (suc w) h l = (bit_at-trailing_zeros w64 (suc w) (omega arith) h).1

digit-false : (r : Bool) (d : ℕ) → d ≡ cond r 1 0 → d ≡ 0 → r ≡ false
digit-false true d e z = absurd (omega arith)
digit-false false d e z = refl

digit-true : (r : Bool) (d : ℕ) → d ≡ cond r 1 0 → d ≡ 1 → r ≡ true
digit-true true d e z = refl
digit-true false d e z = absurd (omega arith)

or-false : (p q : Bool) → p ≡ false → q ≡ false → p || q ≡ false
or-false p q e f = ap₂ (λ (x y : Bool). x || y) e f

or-true : (p q : Bool) → q ≡ true → p || q ≡ true
or-true true q f = refl
or-true false q f = f

module _ (from end free : ℕ) (bound numbers : List ℕ) (some : 0 < from) (marks : MarksFree (end - 1) (from - 1) bound numbers free) (fits : free < 2 ^ 64) where
  below : free / 2 ^ (from - 1) < 2 ^ 64
  below = let h = div-le_self free (2 ^ (from - 1)) in omega arith

  pub skipped-letters : (b : ℕ) → from ≤ b → b < from + count_trailing_zeros 64 (free / 2 ^ (from - 1)) → b < end → b ≤ 64 → ((b == 0) || can_rise bound (b - 1) numbers) ≡ false
  skipped-letters b low high l m =
      let place : (from - 1) + ((b - 1) - (from - 1)) ≡ b - 1 = omega arith in
      let none : bit_at free (b - 1) ≡ 0 = ap (bit_at free) (sym place) ∙ sym (bit_at-shifted free (from - 1) ((b - 1) - (from - 1))) ∙ zeros-below (free / 2 ^ (from - 1)) ((b - 1) - (from - 1)) below (omega arith) in
      or-false (b == 0) (can_rise bound (b - 1) numbers) (ne_eqb b 0 (λ e. absurd (omega arith)))
      (digit-false (can_rise bound (b - 1) numbers) (bit_at free (b - 1)) (marks.digits (b - 1) (omega arith) (omega arith) (omega arith)) none)

  pub found-letter : (b : ℕ) → b ≡ from + count_trailing_zeros 64 (free / 2 ^ (from - 1)) → b < end → b ≤ 64 → ((b == 0) || can_rise bound (b - 1) numbers) ≡ true
  found-letter b is l m =
      let place : (from - 1) + count_trailing_zeros 64 (free / 2 ^ (from - 1)) ≡ b - 1 = omega arith in
      let one : bit_at free (b - 1) ≡ 1 = ap (bit_at free) (sym place) ∙ sym (bit_at-shifted free (from - 1) (count_trailing_zeros 64 (free / 2 ^ (from - 1)))) ∙ one-there (free / 2 ^ (from - 1)) below (omega arith) in
      or-true (b == 0) (can_rise bound (b - 1) numbers)
      (digit-true (can_rise bound (b - 1) numbers) (bit_at free (b - 1)) (marks.digits (b - 1) (omega arith) (omega arith) (omega arith)) one)

-- ---- a set of letters made digit by digit

nothing-set : (free at i : ℕ) → bit_at (bit_or free (0 * 2 ^ at % 2 ^ 64)) i ≡ bit_at free i
nothing-set free at i = search (rules, bit_at_or, bit_at-zero)

digit-set : (r : Bool) (x free at : ℕ) → x ≡ cond r 1 0 → at < 64 → bit_at free at ≡ 0 → bit_at (bit_or free (x * 2 ^ at % 2 ^ 64)) at ≡ cond r 1 0
digit-set true x free at e h z = ap (λ y. bit_at (bit_or free (y * 2 ^ at % 2 ^ 64)) at) e ∙ bit_at_set_same w64 free at h
digit-set false x free at e h z = ap (λ y. bit_at (bit_or free (y * 2 ^ at % 2 ^ 64)) at) e ∙ nothing-set free at at ∙ z

digit-kept : (r : Bool) (x free at i : ℕ) → x ≡ cond r 1 0 → at < 64 → i ≢ at → bit_at (bit_or free (x * 2 ^ at % 2 ^ 64)) i ≡ bit_at free i
digit-kept true x free at i e h d = ap (λ y. bit_at (bit_or free (y * 2 ^ at % 2 ^ 64)) i) e ∙ bit_at_set_other w64 free at h i d
digit-kept false x free at i e h d = ap (λ y. bit_at (bit_or free (y * 2 ^ at % 2 ^ 64)) i) e ∙ nothing-set free at i

pub marks-none : (above : ℕ) (bound numbers : List ℕ) → MarksFree above above bound numbers 0
marks-none above bound numbers = record { digits = λ i h k m. absurd (omega arith) }

digit-of : (r : Bool) (x : ℕ) → x ≡ from_bool r → x ≡ cond r 1 0
digit-of true x e = e
digit-of false x e = e

pub marks-next : (above : ℕ) (bound numbers : List ℕ) (at free : ℕ) (r : Bool) (x : ℕ) → x ≡ from_bool r → at < 64 → above ≤ at → r ≡ can_rise bound at numbers → MarksFree at above bound numbers free → bit_at free at ≡ 0
    → MarksFree (at + 1) above bound numbers (bit_or free (x * 2 ^ at % 2 ^ 64))
marks-next above bound numbers at free r x is h low e marks clear = record { digits = λ i l k m. by i l k m (cases_eq i at) }
  where
    by : (i : ℕ) → above ≤ i → i < at + 1 → i < 64 → (i ≡ at) ⊎ (i ≡ at → ⊥) → bit_at (bit_or free (x * 2 ^ at % 2 ^ 64)) i ≡ cond (can_rise bound i numbers) 1 0
    by i l k m (inl q) =
        ap (bit_at (bit_or free (x * 2 ^ at % 2 ^ 64))) q ∙ digit-set r x free at (digit-of r x is) h clear
        ∙ ap (λ t. cond t 1 0) e ∙ ap (λ j. cond (can_rise bound j numbers) 1 0) (sym q)
    by i l k m (inr d) =
        digit-kept r x free at i (digit-of r x is) h d ∙ marks.digits i l (before (cases_lt i at) d k) m
      where
        before : (i < at) ⊎ (at ≤ i) → (i ≡ at → ⊥) → i < at + 1 → i < at
        before (inl p) f g = p
        before (inr p) f g = absurd (f (omega arith))

pub clear-next : (at free : ℕ) (r : Bool) (x : ℕ) → x ≡ from_bool r → at < 64 → ((i : ℕ) → at ≤ i → bit_at free i ≡ 0) → (i : ℕ) → at + 1 ≤ i → bit_at (bit_or free (x * 2 ^ at % 2 ^ 64)) i ≡ 0
clear-next at free r x is h clear i l = digit-kept r x free at i (digit-of r x is) h (λ e. absurd (omega arith)) ∙ clear i (omega arith)

-- if the digits of `free` at the indices from `from` to n - 1 mark the letters that can be added to the sum `numbers` (`MarksFree`), its digits at
-- the indices in a smaller range from `to` to m - 1 do so, also for a sum equal to `numbers`
pub marks-narrowed : (n m from to : ℕ) (bound numbers same : List ℕ) (free : ℕ) → numbers ≡ same → MarksFree n from bound numbers free
    → ((i : ℕ) → to ≤ i → i < m → i < 64 → (from ≤ i) × (i < n)) → MarksFree m to bound same free
marks-narrowed n m from to bound numbers same free e marks within = record {
  digits = λ i l k h. let w = within i l k h in marks.digits i w.0 w.1 h ∙ ap (λ x. cond (can_rise bound i x) 1 0) e;
}
