-- Weakly increasing words with letters from 1 to n + 1: the letters n + 1 are at the end of the word.
--     `over_rising`               sums over the weakly increasing words with letters up to n
--     `rising-greatest`           a sum over the words with letters up to n + 1, by the number of letters n + 1 at their ends
--     `total_down_from-ext`, `-cut`   sums over the numbers from 0 to d
use Rattle.std.proofs.Common.{◌≡◌, ℕ, zero, suc, ◌+◌, ◌-◌, ◌<◌, ◌≤◌, Bool, true, false, cond, ◌&&◌, List, [], ◌∷◌, ◌++◌, map, length, replicate, nat_le, sym, ◌∙◌, ap, ap₂, subst, refl, inl, inr, arith, ℤ, pos, ◌+ℤ◌, append-nil, rules}
use Rattle.std.proofs.lemmas.Bool.{le-leb, lt-leb}
use Rattle.sym_model.specs.Sum.{total, Among}
use Rattle.sym_model.specs.Partition.{after}
use Rattle.sym_model.specs.Bases.{down_from}
use Rattle.sym_model.specs.Schur.{words, row_rises}
use Rattle.sym_model.proofs.Sums.{total_ext, total_among, total_append, total_none, total_map, total_each, total_exchange, Among_from_each, Among_from_map, down_from-below}
use Rattle.sym_model.proofs.AfterLists.{after_among, after-last}
use Rattle.tableau_laws.specs.Grid.{may_precede}
use lib.IntN.{+ℤ_idl, +ℤ_idr, +ℤ_comm}
use Rattle.sym_model.proofs.Integers.{nothing_either}

pub total_down_from-ext : (f g : ℕ → ℤ) (d : ℕ) → ((i : ℕ) → i ≤ d → f i ≡ g i) → total f (down_from d) ≡ total g (down_from d)
total_down_from-ext f g d h = total_among f g (down_from d) (λ i m. h i (down_from-below d i m))

pub total_down_from-cut : (f : ℕ → ℤ) (e m : ℕ) → ((i : ℕ) → e < i → i ≤ m + e → f i ≡ pos 0) → total f (down_from (m + e)) ≡ total f (down_from e)
total_down_from-cut f e zero h = ap (λ d. total f (down_from d)) (let i : 0 + e ≡ e = omega arith in i)
total_down_from-cut f e (suc m) h =
    ap (λ d. total f (down_from d)) (let i : suc m + e ≡ suc (m + e) = omega arith in i)
    ∙ ap (λ z. z +ℤ total f (down_from (m + e))) (h (suc (m + e)) (omega arith) (omega arith))
    ∙ +ℤ_idl (total f (down_from (m + e)))
    ∙ total_down_from-cut f e m (λ i l k. h i l (omega arith))

total_down_from-first : (f : ℕ → ℤ) (d : ℕ) → ((i : ℕ) → i < d → f i ≡ pos 0) → total f (down_from d) ≡ f d
total_down_from-first f zero h = +ℤ_idr (f 0)
total_down_from-first f (suc d) h =
    ap (λ z. f (suc d) +ℤ z) (total_none f (down_from d) (λ i m. let l = down_from-below d i m in h i (omega arith)))
    ∙ +ℤ_idr (f (suc d))

-- ---- words in the letters 1, .., n

pub after_zero-last : (n : ℕ) → after 0 (suc n) ≡ after 0 n ++ (suc n ∷ [])
after_zero-last n = after-last 0 n ∙ ap (λ k. after 0 n ++ (k ∷ [])) (let e : 0 + suc n ≡ suc n = omega arith in e)

-- each letter of the word is from 1 to n
abbrev pub AreLetters : ℕ → List ℕ → Type 0
AreLetters n [] = Unit {0}
AreLetters n (a ∷ w) = ((0 < a) × (a ≤ n)) × AreLetters n w

pub words-letters : (n k : ℕ) (w : List ℕ) → Among w (words n k) → (length w ≡ k) × AreLetters n w
words-letters n zero w (inl e) = subst (λ v. (length v ≡ 0) × AreLetters n v) (sym e) (refl, tt)
words-letters n zero w (inr m) = absurd m
words-letters n (suc k) w m =
    let a = Among_from_each (λ (a : ℕ). map (λ (v : List ℕ). a ∷ v) (words n k)) w (after 0 n) m in
    let v = Among_from_map (λ (v : List ℕ). a.0 ∷ v) w (words n k) a.2 in
    let rest = words-letters n k v.0 v.1 in
    let bounds = after_among 0 n a.0 a.1 in
    let long : suc (length v.0) ≡ suc k = ap suc rest.0 in
    subst (λ u. (length u ≡ suc k) × AreLetters n u) (sym v.2) (long, ((bounds.0, let h = bounds.1 in omega arith), rest.1))

-- the sum of a function over the weakly increasing words of k letters from 1 to n
abbrev pub over_rising : ℕ → ℕ → (List ℕ → ℤ) → ℤ
over_rising n k g = total (λ (w : List ℕ). cond (row_rises w) (g w) (pos 0)) (words n k)

pub rising-ext : (n k : ℕ) (f g : List ℕ → ℤ) → ((w : List ℕ) → length w ≡ k → AreLetters n w → f w ≡ g w) → over_rising n k f ≡ over_rising n k g
rising-ext n k f g h = search (rules, total_among, words-letters)

pub rising-none : (n : ℕ) (g : List ℕ → ℤ) → over_rising n 0 g ≡ g []
rising-none n g = +ℤ_idr (g [])

rises-front : (a : ℕ) (w : List ℕ) → row_rises (a ∷ w) ≡ (may_precede nat_le a w && row_rises w)
rises-front a [] = refl
rises-front a (b ∷ w) = refl

swap_tests : (p q : Bool) (z : ℤ) → cond (p && q) z (pos 0) ≡ cond q (cond p z (pos 0)) (pos 0)
swap_tests true true z = refl
swap_tests true false z = refl
swap_tests false true z = refl
swap_tests false false z = refl

rising-front : (n k : ℕ) (g : List ℕ → ℤ)
    → over_rising n (suc k) g ≡ total (λ (a : ℕ). over_rising n k (λ w. cond (may_precede nat_le a w) (g (a ∷ w)) (pos 0))) (after 0 n)
rising-front n k g = search (rules, total_each, total_ext, total_map, rises-front, swap_tests)

precedes-greatest : (n a i : ℕ) (v : List ℕ) → a ≤ n → may_precede nat_le a (v ++ replicate i (suc n)) ≡ may_precede nat_le a v
precedes-greatest n a zero [] h = refl
precedes-greatest n a (suc i) [] h = le-leb a (suc n) (omega arith)
precedes-greatest n a i (b ∷ v) h = refl

greatest_precedes : (n i : ℕ) → may_precede nat_le (suc n) (replicate i (suc n)) ≡ true
greatest_precedes n zero = refl
greatest_precedes n (suc i) = le-leb (suc n) (suc n) (omega arith)

greatest_precedes-none : (n i k : ℕ) (v : List ℕ) → length v ≡ suc k → AreLetters n v → may_precede nat_le (suc n) (v ++ replicate i (suc n)) ≡ false
greatest_precedes-none n i k [] l h = absurd (omega arith)
greatest_precedes-none n i k (b ∷ v) l h = let p = h.0.1 in lt-leb (suc n) b (omega arith)

-- the word v followed by i letters n + 1
abbrev pub ended : ℕ → ℕ → List ℕ → List ℕ
ended n i v = v ++ replicate i (suc n)

-- the sum of any g over the weakly increasing words of k letters up to n + 1 is a double sum: over the number i of letters n + 1 at the end, and over
-- the weakly increasing words of k - i letters up to n before them
abbrev EndsWithGreatest : ℕ → ℕ → Type 0
EndsWithGreatest n k =
    (g : List ℕ → ℤ) → over_rising (suc n) k g ≡ total (λ (i : ℕ). over_rising n (k - i) (λ v. g (ended n i v))) (down_from k)

smaller_front : (n k a : ℕ) (g : List ℕ → ℤ) → EndsWithGreatest n k → a ≤ n
    → over_rising (suc n) k (λ w. cond (may_precede nat_le a w) (g (a ∷ w)) (pos 0))
    ≡ total (λ (i : ℕ). over_rising n (k - i) (λ v. cond (may_precede nat_le a v) (g (a ∷ ended n i v)) (pos 0))) (down_from k)
smaller_front n k a g rec h = search (rules, total_ext, rising-ext, precedes-greatest)

smaller_fronts : (n k : ℕ) (g : List ℕ → ℤ) → EndsWithGreatest n k
    → total (λ (a : ℕ). over_rising (suc n) k (λ w. cond (may_precede nat_le a w) (g (a ∷ w)) (pos 0))) (after 0 n)
    ≡ total (λ (i : ℕ). over_rising n (suc k - i) (λ v. g (ended n i v))) (down_from k)
smaller_fronts n k g rec =
    total_among (λ (a : ℕ). over_rising (suc n) k (λ w. cond (may_precede nat_le a w) (g (a ∷ w)) (pos 0)))
    (λ (a : ℕ). total (λ (i : ℕ). with_front a i) (down_from k)) (after 0 n)
    (λ a m. let b = after_among 0 n a m in let h = b.1 in smaller_front n k a g rec (omega arith))
    ∙ total_exchange with_front (after 0 n) (down_from k)
    ∙ total_down_from-ext (λ (i : ℕ). total (λ (a : ℕ). with_front a i) (after 0 n)) (λ (i : ℕ). over_rising n (suc k - i) (λ v. g (ended n i v))) k
    (λ i h. let e : suc (k - i) ≡ suc k - i = omega arith in
    sym (rising-front n (k - i) (λ v. g (ended n i v))) ∙ ap (λ j. over_rising n j (λ v. g (ended n i v))) e)
  where
    with_front : ℕ → ℕ → ℤ
    with_front a i = over_rising n (k - i) (λ v. cond (may_precede nat_le a v) (g (a ∷ ended n i v)) (pos 0))

greatest_front : (n k : ℕ) (g : List ℕ → ℤ) → EndsWithGreatest n k
    → over_rising (suc n) k (λ w. cond (may_precede nat_le (suc n) w) (g (suc n ∷ w)) (pos 0)) ≡ g (replicate (suc k) (suc n))
greatest_front n k g rec =
    rec (λ w. cond (may_precede nat_le (suc n) w) (g (suc n ∷ w)) (pos 0))
    ∙ total_down_from-first with_end k none
    ∙ ap (λ j. over_rising n j (at_end k)) (let e : k - k ≡ 0 = omega arith in e)
    ∙ rising-none n (at_end k)
    ∙ ap (λ b. cond b (g (replicate (suc k) (suc n))) (pos 0)) (greatest_precedes n k)
  where
    at_end : ℕ → List ℕ → ℤ
    at_end i v = cond (may_precede nat_le (suc n) (ended n i v)) (g (suc n ∷ ended n i v)) (pos 0)

    with_end : ℕ → ℤ
    with_end i = over_rising n (k - i) (at_end i)

    none : (i : ℕ) → i < k → with_end i ≡ pos 0
    none i h =
        rising-ext n (k - i) (at_end i) (λ v. pos 0)
        (λ v l m. ap (λ b. cond b (g (suc n ∷ ended n i v)) (pos 0)) (greatest_precedes-none n i (k - i - 1) v (omega arith) m))
        ∙ total_none (λ (w : List ℕ). cond (row_rises w) (pos 0) (pos 0)) (words n (k - i)) (λ w m. nothing_either (row_rises w))

pub rising-greatest : (n k : ℕ) → EndsWithGreatest n k
rising-greatest n zero g = sym (+ℤ_idr (over_rising (suc n) 0 g)) ∙ ap (λ z. z +ℤ pos 0) (rising-none (suc n) g ∙ sym (rising-none n (λ v. g (ended n 0 v)) ∙ ap g (append-nil [])))
rising-greatest n (suc k) g =
    rising-front (suc n) k g
    ∙ ap (total first) (after_zero-last n)
    ∙ total_append first (after 0 n) (suc n ∷ [])
    ∙ ap₂ ◌+ℤ◌ (smaller_fronts n k g (rising-greatest n k)) (+ℤ_idr (first (suc n)) ∙ greatest_front n k g (rising-greatest n k))
    ∙ +ℤ_comm (total (λ (i : ℕ). over_rising n (suc k - i) (λ v. g (ended n i v))) (down_from k)) (g (replicate (suc k) (suc n)))
    ∙ ap (λ z. z +ℤ total (λ (i : ℕ). over_rising n (suc k - i) (λ v. g (ended n i v))) (down_from k)) (sym all)
  where
    first : ℕ → ℤ
    first a = over_rising (suc n) k (λ w. cond (may_precede nat_le a w) (g (a ∷ w)) (pos 0))

    all : over_rising n (suc k - suc k) (λ v. g (ended n (suc k) v)) ≡ g (replicate (suc k) (suc n))
    all = ap (λ j. over_rising n j (λ v. g (ended n (suc k) v))) (let e : suc k - suc k ≡ 0 = omega arith in e) ∙ rising-none n (λ v. g (ended n (suc k) v))
