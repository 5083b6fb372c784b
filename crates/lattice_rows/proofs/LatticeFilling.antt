-- A row is added to a sum s of n numbers, in which the letter t + 1 is to occur μ_t times in the end. f may count the ways to complete the sum and the
-- row (`CountsEndings`): it is 0 if the sum cannot become μ. Here are ends of the row after which every result is 0. If the places of the row are
-- filled in all ways with letters up to t, `filled` is the sum of f over the results.
use Rattle.std.proofs.Common.{◌≡◌, ℕ, zero, suc, ◌+◌, ◌-◌, ◌<◌, ◌≤◌, ◌⊎◌, inl, inr, min, max, Bool, true, false, cond, List, [], ◌∷◌, ◌++◌, length, take, drop, get_or, set, length-append, append_assoc, length-drop, take-take, refl, sym, ap, subst, ◌∙◌, arith}
use Rattle.std.proofs.lemmas.Bool.{cases_lt}
use Rattle.std.proofs.lemmas.List.{get_or-take, get_or-drop, length-take-le, drop-drop, take-set}
use Rattle.std.proofs.Math.Seq.{take-suc-set, get_or-append_seam}
use Rattle.sym_model.specs.Sum.{sum_by}
use Rattle.lr_product.specs.Extension.{numbers_from}
use Rattle.lr_product.specs.RowExtension.{added, filled, least_left, most_left}
use Rattle.lattice_rows.specs.LatticeRows.{row_room, least_end, greatest_end, AgreeBelow, CountsEndings}
use Rattle.lr_product.proofs.Pruned.{numbers-zero}
use Rattle.lr_product.proofs.LetterSums.{sum-step, sum-end}
use Rattle.lr_product.proofs.RangeSums.{sum-narrowed}
use Rattle.lr_product.proofs.Ranges.{numbers-ext}
use Rattle.lr_product.proofs.RowFilling.{length-added, most_within, over_bound}
use Rattle.lr_product.proofs.RowPruning.{get-added_other, get-added_at}

-- ---- the numbers of a state after letters are put

get-added_before : (t i j : ℕ) (s w : List ℕ) → j < t → t < length s → get_or (added t i s ++ w) j 0 ≡ get_or s j 0
get-added_before t i j [] w h l = absurd (omega arith)
get-added_before zero i j (a ∷ s) w h l = absurd (omega arith)
get-added_before (suc t) i zero (a ∷ s) w h l = refl
get-added_before (suc t) i (suc j) (a ∷ s) w h l = get-added_before t i j s w (omega arith) (omega arith)

pub get-put_last : (t i x : ℕ) (s : List ℕ) → get_or (added t i s ++ x ∷ []) (length s) 0 ≡ x
get-put_last t i x s = ap (λ k. get_or (added t i s ++ x ∷ []) k 0) (sym (length-added t i s)) ∙ get_or-append_seam (added t i s) x [] 0

pub length-put : (t i x : ℕ) (s : List ℕ) → length (added t i s ++ x ∷ []) ≡ suc (length s)
length-put t i x s = let l = length-append (added t i s) (x ∷ []) in let k = length-added t i s in omega arith

-- ---- too few places for the missing letters

-- some letter up to t is missing more than k times
record MissingLetter (μ c : List ℕ) (t k : ℕ) : Type 0 where
  letter : ℕ
  below : letter < t
  often : get_or c letter 0 + k < get_or μ letter 0

pub outside_within : (out : ℕ) (μ c : List ℕ) (t : ℕ) → out ≤ least_end out μ c t
outside_within out μ c zero = omega arith
outside_within out μ c (suc t) = let e = outside_within out μ c t in omega arith

module _ (n : ℕ) (is_last : Bool) (μ : List ℕ) (f : List ℕ → List ℕ → ℕ) (counts : CountsEndings n is_last μ f) where
  -- the letter j + 1 is missing more than E_j times, and the letters that are left do not change this
  kept_short : (out t k j : ℕ) (above s : List ℕ) → t ≤ j → j < n → length s + t ≡ n + n
      → get_or s j 0 + get_or s (n + (n - suc j)) 0 < get_or μ j 0 → filled true n out t k above f s ≡ 0
  kept_short out zero k j above s h l e q =
      counts.reaches (take n s) (drop n s) j (length-take-le n s (omega arith)) (let r = length-drop n s in omega arith) l
      (let a = get_or-take n s j 0 l in let b = get_or-drop n s (n - suc j) 0 in omega arith)
  kept_short out (suc t) k j above s h l e q =
      numbers-zero (λ left. filled true n out t left (drop 1 above) f (added t (k - left) s ++ left ∷ [])) (least_left out t k s) (most_left out t k above + 1 - least_left out t k s)
      (λ left low high.
      let a = get-added_other t (k - left) j s (left ∷ []) (omega arith) (omega arith) in
      let b = get-added_other t (k - left) (n + (n - suc j)) s (left ∷ []) (omega arith) (omega arith) in
      let w = length-put t (k - left) left s in
      kept_short out t left j (drop 1 above) (added t (k - left) s ++ left ∷ []) (omega arith) l (omega arith) (omega arith))

  -- k places have letters of at most j + 1, and the letter j + 1 is missing more than k times
  short_at : (out k j : ℕ) (above s : List ℕ) → j < n → length s + suc j ≡ n + n → out ≤ k → get_or s j 0 + k < get_or μ j 0 → filled true n out (suc j) k above f s ≡ 0
  short_at out k j above s l e o q =
      numbers-zero (λ left. filled true n out j left (drop 1 above) f (added j (k - left) s ++ left ∷ [])) (least_left out j k s) (most_left out j k above + 1 - least_left out j k s)
      (λ left low high.
      let m = most_within out j k above o in
      let a = get-added_at j (k - left) s (left ∷ []) (omega arith) in
      let i : n + (n - suc j) ≡ length s = omega arith in
      let b : get_or (added j (k - left) s ++ left ∷ []) (n + (n - suc j)) 0 ≡ left = ap (λ x. get_or (added j (k - left) s ++ left ∷ []) x 0) i ∙ get-put_last j (k - left) left s in
      let w = length-put j (k - left) left s in
      kept_short out j left j (drop 1 above) (added j (k - left) s ++ left ∷ []) (omega arith) l (omega arith) (omega arith))

  least_within : (out t k : ℕ) (s : List ℕ) → out ≤ least_left out t k s
  least_within out zero k s = omega arith
  least_within out (suc t) k s = omega arith

  -- k places have letters of at most t, and the letter j + 1 ≤ t is missing more than k times
  pub short_below : (out t k j : ℕ) (above s : List ℕ) → j < t → t ≤ n → length s + t ≡ n + n → out ≤ k → get_or s j 0 + k < get_or μ j 0 → filled true n out t k above f s ≡ 0
  short_below out zero k j above s h l e o q = absurd (omega arith)
  short_below out (suc t) k j above s h l e o q = by (cases_lt j t) (λ left v. short_below out t left j (drop 1 above) v)
    where
      by : (j < t) ⊎ (t ≤ j)
          → ((left : ℕ) (v : List ℕ) → j < t → t ≤ n → length v + t ≡ n + n → out ≤ left → get_or v j 0 + left < get_or μ j 0 → filled true n out t left (drop 1 above) f v ≡ 0)
          → filled true n out (suc t) k above f s ≡ 0
      by (inl g) rec =
          numbers-zero (λ left. filled true n out t left (drop 1 above) f (added t (k - left) s ++ left ∷ [])) (least_left out t k s) (most_left out t k above + 1 - least_left out t k s)
          (λ left low high.
          let m = most_within out t k above o in
          let b = least_within out t k s in
          let a = get-added_before t (k - left) j s (left ∷ []) g (omega arith) in
          let w = length-put t (k - left) left s in
          rec left (added t (k - left) s ++ left ∷ []) g (omega arith) (omega arith) (omega arith) (omega arith))
      by (inr g) rec =
          let same : t ≡ j = omega arith in
          ap (λ i. filled true n out (suc i) k above f s) same ∙ short_at out k j above s (omega arith) (omega arith) o q

  -- in the row above, too few places have a letter of at most j
  pub short_above : (out t k j : ℕ) (above s : List ℕ) → suc j < t → t ≤ n → length s + t ≡ n + n → out ≤ k → t ≤ suc (length above)
      → get_or s j 0 + get_or above (t - suc (suc j)) 0 < get_or μ j 0 → filled true n out t k above f s ≡ 0
  short_above out zero k j above s h l e o u q = absurd (omega arith)
  short_above out (suc zero) k j above s h l e o u q = absurd (omega arith)
  short_above out (suc (suc t)) k j [] s h l e o u q = absurd (omega arith)
  short_above out (suc (suc t)) k j (x ∷ above) s h l e o u q =
      numbers-zero (λ left. filled true n out (suc t) left above f (added (suc t) (k - left) s ++ left ∷ [])) (least_left out (suc t) k s) (most_left out (suc t) k (x ∷ above) + 1 - least_left out (suc t) k s)
      (λ left low high.
      let b = least_within out (suc t) k s in
      let a = get-added_before (suc t) (k - left) j s (left ∷ []) (omega arith) (omega arith) in
      let w = length-put (suc t) (k - left) left s in
      by left (cases_lt j t) (λ v. short_above out (suc t) left j above v) (omega arith) (omega arith) (omega arith) a w)
    where
      by : (left : ℕ) → (j < t) ⊎ (t ≤ j)
          → ((v : List ℕ) → suc j < suc t → suc t ≤ n → length v + suc t ≡ n + n → out ≤ left → suc t ≤ suc (length above)
          → get_or v j 0 + get_or above (suc t - suc (suc j)) 0 < get_or μ j 0 → filled true n out (suc t) left above f v ≡ 0)
          → out ≤ left → left ≤ k → left ≤ x
          → get_or (added (suc t) (k - left) s ++ left ∷ []) j 0 ≡ get_or s j 0 → length (added (suc t) (k - left) s ++ left ∷ []) ≡ suc (length s)
          → filled true n out (suc t) left above f (added (suc t) (k - left) s ++ left ∷ []) ≡ 0
      by left (inl g) rec b m y a w =
          let i : suc (suc t) - suc (suc j) ≡ suc (suc t - suc (suc j)) = omega arith in
          let r = ap (λ z. get_or (x ∷ above) z 0) i in
          rec (added (suc t) (k - left) s ++ left ∷ []) (omega arith) (omega arith) (omega arith) b (omega arith) (omega arith)
      by left (inr g) rec b m y a w =
          let i : suc (suc t) - suc (suc j) ≡ 0 = omega arith in
          let r : get_or (x ∷ above) (suc (suc t) - suc (suc j)) 0 ≡ x = ap (λ z. get_or (x ∷ above) z 0) i in
          short_below out (suc t) left j above (added (suc t) (k - left) s ++ left ∷ []) (omega arith) (omega arith) (omega arith) b (omega arith)

  -- k places have letters of at most t, and this is less than the bound `least_end`
  missing_letter : (out t k : ℕ) (c : List ℕ) → k < least_end out μ c t → out ≤ k → MissingLetter μ c t k
  missing_letter out zero k c h o = absurd (omega arith)
  missing_letter out (suc t) k c h o = by (cases_lt (get_or c t 0 + k) (get_or μ t 0)) (λ q. missing_letter out t k c q o)
    where
      by : (get_or c t 0 + k < get_or μ t 0) ⊎ (get_or μ t 0 ≤ get_or c t 0 + k) → (k < least_end out μ c t → MissingLetter μ c t k) → MissingLetter μ c (suc t) k
      by (inl g) rec = record { letter = t; below = omega arith; often = g }
      by (inr g) rec = let r = rec (omega arith) in record { letter = r.letter; below = (let b = r.below in omega arith); often = r.often }

  pub least_excluded : (out t k : ℕ) (above s c : List ℕ) → t ≤ n → length s + t ≡ n + n → AgreeBelow t s c → out ≤ k → k < least_end out μ c t
      → filled true n out t k above f s ≡ 0
  least_excluded out t k above s c h e agree o q =
      let r = missing_letter out t k c q o in
      let a = agree.agree r.letter r.below in
      let m = r.often in
      short_below out t k r.letter above s r.below h e o (omega arith)

  agree_put : (t i x : ℕ) (s c : List ℕ) → t < length s → AgreeBelow (suc t) s c → AgreeBelow t (added t i s ++ x ∷ []) c
  agree_put t i x s c l agree = record { agree = λ j h. get-added_before t i j s (x ∷ []) h l ∙ agree.agree j (omega arith) }

  -- more letters t + 1 than allowed
  too_many : (out t k x : ℕ) (above s c : List ℕ) → length μ ≡ n → t < n → n ≤ length s → AgreeBelow (suc t) s c → least_left out t k s ≤ x → x ≤ k → row_room μ c t < k - x
      → filled true n out t x above f (added t (k - x) s ++ x ∷ []) ≡ 0
  too_many out zero k x above s c m h l agree low high q =
      let a = agree.agree zero (omega arith) in
      over_bound true n out zero k x above μ f s counts.within h l (omega arith) (omega arith)
  too_many out (suc t) k x above s c m h l agree low high q =
      let a = agree.agree (suc t) (omega arith) in
      let b = agree.agree t (omega arith) in
      over_bound true n out (suc t) k x above μ f s counts.within h l (omega arith) (omega arith)

  most_drop : (out t k i : ℕ) (U : List ℕ) → i < length U → most_left out (suc t) k (drop i U) ≡ min k (get_or U i 0)
  most_drop out t k i [] h = absurd (omega arith)
  most_drop out t k zero (x ∷ U) h = refl
  most_drop out t k (suc i) (x ∷ U) h = most_drop out t k i U (omega arith)

  next_above : (t : ℕ) (U : List ℕ) → suc t ≤ n → drop 1 (drop ((n + 1) - suc t) U) ≡ drop ((n + 1) - t) U
  next_above t U h = drop-drop 1 ((n + 1) - suc t) U ∙ (let e : ((n + 1) - suc t) + 1 ≡ (n + 1) - t = omega arith in ap (λ i. drop i U) e)

  -- more places with letters of at most t + 1 than the letters of at most t, and the letters t + 1, allow
  pub greatest_excluded : (out t k : ℕ) (U s c : List ℕ) → length μ ≡ n → length U ≡ n → t < n → n ≤ length s → AgreeBelow (suc t) s c → out ≤ k
      → greatest_end n out μ c U t + row_room μ c t < k → filled true n out (suc t) k (drop ((n + 1) - suc t) U) f s ≡ 0
  greatest_excluded out zero k U s c m u h l agree o q =
      numbers-zero (λ left. filled true n out zero left (drop 1 (drop ((n + 1) - 1) U)) f (added zero (k - left) s ++ left ∷ []))
      (least_left out zero k s) (most_left out zero k (drop ((n + 1) - 1) U) + 1 - least_left out zero k s)
      (λ left low high. too_many out zero k left (drop 1 (drop ((n + 1) - 1) U)) s c m h l agree (omega arith) (omega arith) (omega arith))
  greatest_excluded out (suc t) k U s c m u h l agree o q =
      numbers-zero (λ left. filled true n out (suc t) left (drop 1 (drop ((n + 1) - suc (suc t)) U)) f (added (suc t) (k - left) s ++ left ∷ []))
      (least_left out (suc t) k s) (most_left out (suc t) k (drop ((n + 1) - suc (suc t)) U) + 1 - least_left out (suc t) k s)
      (λ left low high.
      let w = most_within out (suc t) k (drop ((n + 1) - suc (suc t)) U) o in
      by left low (omega arith) (omega arith) (cases_lt (greatest_end n out μ c U (suc t)) left) (λ v. greatest_excluded out t left U v c m u))
    where
      by : (left : ℕ) → least_left out (suc t) k s ≤ left → left ≤ most_left out (suc t) k (drop ((n + 1) - suc (suc t)) U) → left ≤ k
          → (greatest_end n out μ c U (suc t) < left) ⊎ (left ≤ greatest_end n out μ c U (suc t))
          → ((v : List ℕ) → t < n → n ≤ length v → AgreeBelow (suc t) v c → out ≤ left → greatest_end n out μ c U t + row_room μ c t < left
          → filled true n out (suc t) left (drop ((n + 1) - suc t) U) f v ≡ 0)
          → filled true n out (suc t) left (drop 1 (drop ((n + 1) - suc (suc t)) U)) f (added (suc t) (k - left) s ++ left ∷ []) ≡ 0
      by left low most high (inl g) rec =
          let a = most_drop out t k ((n + 1) - suc (suc t)) U (omega arith) in
          let d : (n + 1) - suc (suc t) ≡ n - suc t = omega arith in
          let e = ap (λ z. get_or U z 0) d in
          let p = length-put (suc t) (k - left) left s in
          let r = least_within out (suc t) k s in
          ap (λ A. filled true n out (suc t) left A f (added (suc t) (k - left) s ++ left ∷ [])) (next_above (suc t) U h)
          ∙ rec (added (suc t) (k - left) s ++ left ∷ []) (omega arith) (omega arith) (agree_put (suc t) (k - left) left s c (omega arith) agree) (omega arith) (omega arith)
      by left low most high (inr g) rec = too_many out (suc t) k left (drop 1 (drop ((n + 1) - suc (suc t)) U)) s c m h l agree low high (omega arith)

  -- the places of a row are filled with letters up to t + 1, within the bounds for the number x of places that are left for letters up to t
  pub within_bounds : (out t k low end : ℕ) (U s c : List ℕ) → length μ ≡ n → length U ≡ n → t < n → length s + suc t ≡ n + n → AgreeBelow (suc t) s c → out ≤ k
      → low ≡ max (least_end out μ c t) (k - row_room μ c t) → end ≡ min (greatest_end n out μ c U t) k + 1
      → sum_by (λ x. filled true n out t x (drop ((n + 1) - t) U) f (added t (k - x) s ++ x ∷ [])) (numbers_from low (end - low))
      ≡ filled true n out (suc t) k (drop ((n + 1) - suc t) U) f s
  within_bounds out t k low end U s c m u h l agree o is-low is-end =
      sym (ap (λ A. sum_by (λ x. filled true n out t x A f (added t (k - x) s ++ x ∷ [])) (numbers_from least (most + 1 - least))) (next_above t U h)
      ∙ sum-narrowed X least (most + 1) low end (lows t refl) (ends t refl)
      (λ x g q r. below x g (omega arith) r (cases_lt x (least_end out μ c t)))
      (λ x g q r. past t x refl g (omega arith) (let w = most_within out t k above o in omega arith)))
    where
      above : List ℕ
      above = drop ((n + 1) - suc t) U

      least : ℕ
      least = least_left out t k s

      most : ℕ
      most = most_left out t k above

      X : ℕ → ℕ
      X x = filled true n out t x (drop ((n + 1) - t) U) f (added t (k - x) s ++ x ∷ [])

      lows : (i : ℕ) → t ≡ i → least ≤ low
      lows zero is = let a = ap (λ i. least_left out i k s) is in let b = ap (λ i. least_end out μ c i) is in omega arith
      lows (suc i) is =
          let a = ap (λ i. least_left out i k s) is in
          let b = ap (λ i. row_room μ c i) is in
          let d = agree.agree i (omega arith) in
          let e = agree.agree (suc i) (omega arith) in
          let r = outside_within out μ c t in
          omega arith

      ends : (i : ℕ) → t ≡ i → end ≤ most + 1
      ends zero is = let a = ap (λ i. most_left out i k above) is in let b = ap (λ i. greatest_end n out μ c U i) is in omega arith
      ends (suc i) is =
          let a = ap (λ i. most_left out i k above) is ∙ most_drop out i k ((n + 1) - suc t) U (omega arith) in
          let b = ap (λ i. greatest_end n out μ c U i) is in
          let d : (n + 1) - suc t ≡ n - suc i = omega arith in
          let e = ap (λ z. get_or U z 0) d in
          omega arith

      below : (x : ℕ) → least ≤ x → x ≤ most → x < low → (x < least_end out μ c t) ⊎ (least_end out μ c t ≤ x) → X x ≡ 0
      below x g q r (inl b) =
          let p = length-put t (k - x) x s in
          let w = least_within out t k s in
          least_excluded out t x (drop ((n + 1) - t) U) (added t (k - x) s ++ x ∷ []) c (omega arith) (omega arith) (agree_put t (k - x) x s c (omega arith) agree) (omega arith) b
      below x g q r (inr b) =
          let w = most_within out t k above o in
          too_many out t k x (drop ((n + 1) - t) U) s c m h (omega arith) agree g (omega arith) (omega arith)

      past : (i x : ℕ) → t ≡ i → least ≤ x → x ≤ most → greatest_end n out μ c U t < x → X x ≡ 0
      past zero x is g q r =
          let a = ap (λ i. most_left out i k above) is in
          let b = ap (λ i. greatest_end n out μ c U i) is in
          absurd (omega arith)
      past (suc i) x is g q r =
          let a = ap (λ i. most_left out i k above) is ∙ most_drop out i k ((n + 1) - suc t) U (omega arith) in
          let b = ap (λ i. greatest_end n out μ c U i) is in
          let d : (n + 1) - suc t ≡ n - suc i = omega arith in
          let e = ap (λ z. get_or U z 0) d in
          let p = length-put t (k - x) x s in
          let w = least_within out t k s in
          let agrees = agree_put t (k - x) x s c (omega arith) agree in
          ap (λ z. filled true n out z x (drop ((n + 1) - z) U) f (added t (k - x) s ++ x ∷ [])) is
          ∙ greatest_excluded out i x U (added t (k - x) s ++ x ∷ []) c m u (omega arith) (omega arith) (subst (λ z. AgreeBelow z (added t (k - x) s ++ x ∷ []) c) is agrees) (omega arith) (omega arith)

  -- the ways do not depend on the ends above otherwise than by the greatest ends of the row
  pub filled-alike : (out t k : ℕ) (U V s c : List ℕ) → length μ ≡ n → length U ≡ n → length V ≡ n → t ≤ n → length s + t ≡ n + n → AgreeBelow t s c → out ≤ k
      → ((i : ℕ) → i ≤ n → greatest_end n out μ c U i ≡ greatest_end n out μ c V i)
      → filled true n out t k (drop ((n + 1) - t) U) f s ≡ filled true n out t k (drop ((n + 1) - t) V) f s
  filled-alike out zero k U V s c m u v h l agree o same = refl
  filled-alike out (suc t) k U V s c m u v h l agree o same =
      let low = max (least_end out μ c t) (k - row_room μ c t) in
      let end = min (greatest_end n out μ c U t) k + 1 in
      let b = outside_within out μ c t in
      sym (within_bounds out t k low end U s c m u h l agree o refl refl)
      ∙ numbers-ext (λ x. filled true n out t x (drop ((n + 1) - t) U) f (added t (k - x) s ++ x ∷ [])) (λ x. filled true n out t x (drop ((n + 1) - t) V) f (added t (k - x) s ++ x ∷ []))
      low (end - low)
      (λ x g q.
      let p = length-put t (k - x) x s in
      filled-alike out t x U V (added t (k - x) s ++ x ∷ []) c m u v (omega arith) (omega arith) (agree_put t (k - x) x s c (omega arith) agree) (omega arith) same)
      ∙ within_bounds out t k low end V s c m v h l agree o refl (ap (λ g. min g k + 1) (same t (omega arith)))

-- ---- a state as a list

added-front : (t i : ℕ) (s w : List ℕ) → t < length s → added t i (s ++ w) ≡ added t i s ++ w
added-front t i [] w h = absurd (omega arith)
added-front zero i (a ∷ s) w h = refl
added-front (suc t) i (a ∷ s) w h = ap (λ l. a ∷ l) (added-front t i s w (omega arith))

set-added : (n t i : ℕ) (s : List ℕ) → t < n → n ≤ length s → take n (set s t (get_or s t 0 + i)) ≡ added t i (take n s)
set-added zero t i s h l = absurd (omega arith)
set-added (suc n) t i [] h l = absurd (omega arith)
set-added (suc n) zero i (a ∷ s) h l = refl
set-added (suc n) (suc t) i (a ∷ s) h l = ap (λ v. a ∷ v) (set-added n t i s (omega arith) (omega arith))

-- i letters t + 1 are put into a state with the given ends, whose row then ends at x for the letters up to t
pub state_put : (n t i x : ℕ) (content ends : List ℕ) → t < n → n ≤ length content
    → take n (set content t (get_or content t 0 + i)) ++ (ends ++ x ∷ []) ≡ added t i (take n content ++ ends) ++ x ∷ []
state_put n t i x content ends h l =
    let w = length-take-le n content l in
    ap (λ v. v ++ (ends ++ x ∷ [])) (set-added n t i content h l)
    ∙ sym (append_assoc (added t i (take n content)) ends (x ∷ []))
    ∙ ap (λ v. v ++ x ∷ []) (sym (added-front t i (take n content) ends (omega arith)))

-- the end x is put after the first n - u of the ends, u = t + 1, and the others before it stay
pub put_end : (n t u x : ℕ) (ends old : List ℕ) → u ≡ suc t → t < n → n ≤ length ends → take (n - u) ends ≡ take (n - u) old → take (n - t) (set ends (n - u) x) ≡ take (n - u) old ++ x ∷ []
put_end n t u x ends old is h l same =
    let one : n - t ≡ suc (n - u) = omega arith in
    ap (λ k. take k (set ends (n - u) x)) one ∙ take-suc-set ends (n - u) x (omega arith) ∙ ap (λ v. v ++ x ∷ []) same

pub before_end : (n t u x : ℕ) (ends new : List ℕ) → u ≡ suc t → take (n - t) new ≡ take (n - t) (set ends (n - u) x) → take (n - u) new ≡ take (n - u) ends
before_end n t u x ends new is same =
    sym (take-take (n - u) (n - t) new (omega arith)) ∙ ap (take (n - u)) same ∙ take-take (n - u) (n - t) (set ends (n - u) x) (omega arith) ∙ take-set ends (n - u) x

-- one pass of a loop over the numbers less than `end`, which adds X(left) if b is true; and the end of the loop
pub sum_passed : (b : Bool) (now next start : ℕ) (X : ℕ → ℕ) (left end y : ℕ) → left < end → now + cond b (sum_by X (numbers_from left (end - left))) 0 ≡ start
    → next ≡ now + cond b y 0 → y ≡ X left → next + cond b (sum_by X (numbers_from (left + 1) (end - (left + 1)))) 0 ≡ start
sum_passed true now next start X left end y h e q is = let s = sum-step X left end h in omega arith
sum_passed false now next start X left end y h e q is = omega arith

pub sum_finished : (b : Bool) (now start all : ℕ) (X : ℕ → ℕ) (left end low : ℕ) → end ≤ left
    → now + cond b (sum_by X (numbers_from left (end - left))) 0 ≡ start + cond b (sum_by X (numbers_from low (end - low))) 0
    → sum_by X (numbers_from low (end - low)) ≡ all → now ≡ start + cond b all 0
sum_finished true now start all X left end low h e q = let s = sum-end X left end h in omega arith
sum_finished false now start all X left end low h e q = omega arith
