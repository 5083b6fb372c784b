-- Rows as weakly increasing words, and the sum over all rows computed letter by letter, from the greatest letter down. The row above is described by
-- a list `above`: the numbers of its letters that are at most n - 1, n - 2, .., 0.
use Rattle.std.proofs.Common.{◌≡◌, ℕ, zero, suc, ◌+◌, ◌-◌, ◌<◌, ◌≤◌, nat_le, Bool, true, false, cond, ◌&&◌, ◌==◌, List, [], ◌∷◌, ◌++◌, map, length, replicate, take, drop, get_or, refl, sym, ap, ap₂, subst, ◌∙◌, arith, ℤ, pos, ◌+ℤ◌, append_assoc, append-nil}
use Rattle.std.proofs.lemmas.Bool.Decides.{nat_tests}
use Rattle.std.proofs.lemmas.Bool.{le-leb, lt-leb, and_right}
use Rattle.sym_model.specs.Sum.{total, sum_by}
use Rattle.sym_model.specs.Partition.{after}
use Rattle.sym_model.specs.Polynomial.{join}
use Rattle.sym_model.specs.Bases.{down_from}
use Rattle.sym_model.specs.Schur.{times_in, content, words, row_rises}
use Rattle.sym_model.proofs.Sums.{total_ext, total_map, total_none}
use Rattle.sym_model.proofs.Exponents.{length-join}
use Rattle.sym_model.proofs.Contents.{times_in-append}
use Rattle.tableau_laws.specs.Grid.{may_precede, is_chain}
use Rattle.tableau_laws.specs.PaddedRows.{line_of, words_over}
use Rattle.tableau_laws.proofs.Padding.{words_over-line}
use Rattle.tableau_laws.proofs.Contents.{times_in-zeros, content_same}
use Rattle.alternant_laws.proofs.Exchanges.{length_content}
use Rattle.schur_laws.proofs.RisingRows.{up_to_letter, one_more_letter, few_times}
use Rattle.schur_laws.proofs.GreatestLetters.{AreLetters, over_rising, rising-ext, rising-none, rising-greatest, ended, total_down_from-ext}
use Rattle.lr_product.specs.Extension.{numbers_from, greatest_letter, mark}
use Rattle.lr_product.specs.WeighedSum.{at_state}
use Rattle.lr_product.specs.RowExtension.{added, most_left, least_left, filled, next_row}
use Rattle.lr_product.proofs.Ranges.{range-passing, numbers-ext}
use Rattle.sym_model.proofs.Integers.{nothing_either, nested_tests}
use Rattle.std.proofs.Math.Seq.{take-append_seam, drop-append_seam}
use Rattle.schur_laws.proofs.StripsRemoved.{times_in-higher, times_in-itself}
use Rattle.tableau_laws.proofs.PaddedTableaux.{zeros_first, chain_row}

-- ---- the number of letters of a word up to a given letter (`up_to_letter`)

up_to-append : (k : ℕ) (v w : List ℕ) → up_to_letter k (v ++ w) ≡ up_to_letter k v + up_to_letter k w
up_to-append k [] w = omega arith
up_to-append k (a ∷ v) w = let e = up_to-append k v w in omega arith

up_to-run : (k i a : ℕ) → a ≤ k → up_to_letter k (replicate i a) ≡ i
up_to-run k zero a l = refl
up_to-run k (suc i) a l = let e = up_to-run k i a l in let f : cond {A = ℕ} (nat_le a k) 1 0 ≡ 1 = grind (arith, nat_tests) in omega arith

up_to-late : (k i a : ℕ) → k < a → up_to_letter k (replicate i a) ≡ 0
up_to-late k zero a l = refl
up_to-late k (suc i) a l = let e = up_to-late k i a l in let f : cond {A = ℕ} (nat_le a k) 1 0 ≡ 0 = grind (arith, nat_tests) in omega arith

up_to-all : (k t : ℕ) (v : List ℕ) → AreLetters t v → t ≤ k → up_to_letter k v ≡ length v
up_to-all k t [] h l = refl
up_to-all k t (a ∷ v) h l = let e = up_to-all k t v h.1 l in let q = h.0.1 in let f : cond {A = ℕ} (nat_le a k) 1 0 ≡ 1 = grind (arith, nat_tests) in omega arith

times-other : (k i a : ℕ) → a < k → times_in k (replicate i a) ≡ 0
times-other k zero a l = refl
times-other k (suc i) a l = let e = times-other k i a l in let f : cond {A = ℕ} (a == k) 1 0 ≡ 0 = grind (arith, nat_tests) in omega arith

-- the word w with b zeros in front
abbrev padded : ℕ → List ℕ → List ℕ
padded b w = replicate b 0 ++ w

up_to-padded : (k b : ℕ) (w : List ℕ) → up_to_letter k (padded b w) ≡ b + up_to_letter k w
up_to-padded k b w = let e = up_to-append k (replicate b 0) w in let f = up_to-run k b 0 (omega arith) in omega arith

times-padded : (k b : ℕ) (w : List ℕ) → 0 < k → times_in k (padded b w) ≡ times_in k w
times-padded k b w l = let e = times_in-append k (replicate b 0) w in let f = times_in-zeros k b l in omega arith

-- for each of the letters t + d - 1, t + d - 2, .., t, the number of letters of w that are at most this letter
abbrev pub places_down : ℕ → ℕ → List ℕ → List ℕ
places_down zero t w = []
places_down (suc d) t w = up_to_letter (t + d) w ∷ places_down d t w

places-ext : (d t : ℕ) (v w : List ℕ) → ((j : ℕ) → t ≤ j → up_to_letter j v ≡ up_to_letter j w) → places_down d t v ≡ places_down d t w
places-ext zero t v w h = refl
places-ext (suc d) t v w h = ap₂ ◌∷◌ (h (t + d) (omega arith)) (places-ext d t v w h)

places-last : (d t : ℕ) (w : List ℕ) → places_down (suc d) t w ≡ places_down d (suc t) w ++ (up_to_letter t w ∷ [])
places-last zero t w = let e : t + 0 ≡ t = omega arith in ap (λ k. up_to_letter k w ∷ []) e
places-last (suc d) t w = let e : t + suc d ≡ suc t + d = omega arith in ap₂ ◌∷◌ (ap (λ k. up_to_letter k w) e) (places-last d t w)

-- `places_down d t w` if the row is kept (true), otherwise the empty list
abbrev pub kept_row : Bool → ℕ → ℕ → List ℕ → List ℕ
kept_row true d t w = places_down d t w
kept_row false d t w = []

-- for each of the letters t + 1, .., t + d, the number of times that it occurs in w
abbrev counts : ℕ → ℕ → List ℕ → List ℕ
counts zero t w = []
counts (suc d) t w = times_in (suc t) w ∷ counts d (suc t) w

counts-ext : (d t : ℕ) (v w : List ℕ) → ((j : ℕ) → t < j → times_in j v ≡ times_in j w) → counts d t v ≡ counts d t w
counts-ext zero t v w h = refl
counts-ext (suc d) t v w h = ap₂ ◌∷◌ (h (suc t) (omega arith)) (counts-ext d (suc t) v w (λ j l. h j (omega arith)))

counts-content : (d t : ℕ) (w : List ℕ) → map (λ k. times_in k w) (after t d) ≡ counts d t w
counts-content zero t w = refl
counts-content (suc d) t w = let e : t + 1 ≡ suc t = omega arith in ap₂ ◌∷◌ (ap (λ k. times_in k w) e) (ap (λ k. map (λ j. times_in j w) (after k d)) e ∙ counts-content d (suc t) w)

-- ---- the state while a row is filled: the sum reached, and the numbers of places that are left

-- the list ν with the numbers of κ added to those of ν from the index t on
abbrev joined : ℕ → List ℕ → List ℕ → List ℕ
joined zero ν κ = join ν κ
joined (suc t) [] κ = []
joined (suc t) (a ∷ ν) κ = a ∷ joined t ν κ

added-joined : (t i : ℕ) (ν κ w : List ℕ) → t < length ν → added t i (joined (suc t) ν κ ++ w) ≡ joined t ν (i ∷ κ) ++ w
added-joined t i [] κ w l = absurd (omega arith)
added-joined zero i (a ∷ ν) κ w l = refl
added-joined (suc t) i (a ∷ ν) κ w l = ap (λ s. a ∷ s) (added-joined t i ν κ w (omega arith))

joined-before : (t j : ℕ) (ν κ w : List ℕ) → j < t → j < length ν → get_or (joined t ν κ ++ w) j 0 ≡ get_or ν j 0
joined-before zero j ν κ w l h = absurd (omega arith)
joined-before (suc t) j [] κ w l h = absurd (omega arith)
joined-before (suc t) zero (a ∷ ν) κ w l h = refl
joined-before (suc t) (suc j) (a ∷ ν) κ w l h = joined-before t j ν κ w (omega arith) (omega arith)

joined-none : (ν : List ℕ) → joined (length ν) ν [] ≡ ν
joined-none [] = refl
joined-none (a ∷ ν) = ap (λ s. a ∷ s) (joined-none ν)

at-parts : (n : ℕ) (f : List ℕ → List ℕ → ℕ) (s w : List ℕ) → length s ≡ n → at_state n f (s ++ w) ≡ f s w
at-parts n f s w e = ap₂ f (ap (λ k. take k (s ++ w)) (sym e) ∙ take-append_seam s w) (ap (λ k. drop k (s ++ w)) (sym e) ∙ drop-append_seam s w)

-- whether i letters t + 1 may be added to ν as a part of a horizontal strip: ν_t + i ≤ ν_(t-1) (always true for t = 0)
abbrev pub strip_at : ℕ → List ℕ → ℕ → Bool
strip_at zero ν i = true
strip_at (suc t) ν i = nat_le (get_or ν (suc t) 0 + i) (get_or ν t 0)

-- whether the letters of w up to t are allowed below the row described by `above`, and may be added to ν (`strip_at` for each letter)
abbrev pub row_test : ℕ → List ℕ → List ℕ → List ℕ → Bool
row_test zero ν above w = true
row_test (suc t) ν above w =
    may_precede nat_le (up_to_letter (suc t) w) above && (strip_at t ν (times_in (suc t) w) && row_test t ν (drop 1 above) w)

-- whether a row that begins with b zeros and m letters up to t is allowed below the row described by `above`
abbrev some_row : ℕ → ℕ → ℕ → List ℕ → Bool
some_row zero b zero above = true
some_row zero b (suc m) above = false
some_row (suc t) b m above = may_precede nat_le (b + m) above

-- ---- sums of natural numbers, as sums of integers

pulled : (t j : ℕ) (p q : Bool) (r : List ℕ → Bool) (x : List ℕ → ℤ)
    → over_rising t j (λ v. cond (p && (q && r v)) (x v) (pos 0)) ≡ cond p (cond q (over_rising t j (λ v. cond (r v) (x v) (pos 0))) (pos 0)) (pos 0)
pulled t j true true r x = refl
pulled t j true false r x = total_none (λ (w : List ℕ). cond (row_rises w) (pos 0) (pos 0)) (words t j) (λ w m. nothing_either (row_rises w))
pulled t j false q r x = total_none (λ (w : List ℕ). cond (row_rises w) (pos 0) (pos 0)) (words t j) (λ w m. nothing_either (row_rises w))

pos-tests : (p q r : Bool) (x : ℕ) → cond p (cond q (pos (cond r x 0)) (pos 0)) (pos 0) ≡ pos (cond p (cond (q && r) x 0) 0)
pos-tests true true r x = refl
pos-tests true false r x = refl
pos-tests false q r x = refl

down-numbers : (b m : ℕ) (x : ℕ → ℕ) → total (λ (i : ℕ). pos (x i)) (down_from m) ≡ pos (sum_by (λ left. x (b + m - left)) (numbers_from b (m + 1)))
down-numbers b zero x = let e : b + 0 - b ≡ 0 = omega arith in ap (λ i. pos (x i + 0)) (sym e)
down-numbers b (suc m) x =
    let e : b + suc m - b ≡ suc m = omega arith in
    let g : b + 1 + m ≡ b + suc m = omega arith in
    let h : suc m + 1 ≡ suc (m + 1) = omega arith in
    ap (λ z. pos (x (suc m)) +ℤ z) (down-numbers (b + 1) m x)
    ∙ ap₂ (λ i k. pos (x i + sum_by (λ left. x (k - left)) (numbers_from (b + 1) (m + 1)))) (sym e) g
    ∙ ap (λ k. pos (sum_by (λ left. x (b + suc m - left)) (numbers_from b k))) (sym h)

sum-tested : (p : Bool) (x : ℕ → ℕ) (low k : ℕ) → sum_by (λ left. cond p (x left) 0) (numbers_from low k) ≡ cond p (sum_by x (numbers_from low k)) 0
sum-tested true x low k = refl
sum-tested false x low zero = refl
sum-tested false x low (suc k) = let e = sum-tested false x (low + 1) k in let z : 0 + sum_by (λ left. cond {A = ℕ} false (x left) 0) (numbers_from (low + 1) k) ≡ sum_by (λ left. cond {A = ℕ} false (x left) 0) (numbers_from (low + 1) k) = omega arith in z ∙ e

-- ---- the sum over all rows, from the greatest letter down

module _ (n b : ℕ) (kept : Bool) (f : List ℕ → List ℕ → ℕ) (ν : List ℕ) (long : length ν ≡ n) (falls : (i : ℕ) → get_or ν (suc i) 0 ≤ get_or ν i 0) where
  -- f(ν + content(w), r); here r describes the row w (`kept_row`) if the row is kept, and is the empty list otherwise
  value : List ℕ → ℕ
  value w = f (join ν (content n w)) (kept_row kept n 0 w)

  state : ℕ → ℕ → ℕ → List ℕ → List ℕ
  state d t k tail = joined t ν (counts d t tail) ++ kept_row kept d t (padded k tail)

  state-next : (d t left i k : ℕ) (tail : List ℕ) → t < n → left + i ≡ k → up_to_letter (suc t) tail ≡ 0
      → added t i (state d (suc t) k tail) ++ mark kept left ≡ state (suc d) t left (replicate i (suc t) ++ tail)
  unfolding state
  state-next d t left i k tail l e none =
      ap (λ s. s ++ mark kept left) (added-joined t i ν (counts d (suc t) tail) (kept_row kept d (suc t) (padded k tail)) (omega arith))
      ∙ append_assoc (joined t ν (i ∷ counts d (suc t) tail)) (kept_row kept d (suc t) (padded k tail)) (mark kept left)
      ∙ ap₂ (λ (κ m : List ℕ). joined t ν κ ++ m) (ap₂ ◌∷◌ here (counts-ext d (suc t) tail (replicate i (suc t) ++ tail) later)) (row kept)
    where
      here : i ≡ times_in (suc t) (replicate i (suc t) ++ tail)
      here =
          let a = times_in-append (suc t) (replicate i (suc t)) tail in
          let r = times_in-itself (suc t) i in
          let z = few_times (suc t) tail in
          omega arith

      later : (j : ℕ) → suc t < j → times_in j tail ≡ times_in j (replicate i (suc t) ++ tail)
      later j h =
          let a = times_in-append j (replicate i (suc t)) tail in
          let r = times-other j i (suc t) h in
          omega arith

      after_t : (j : ℕ) → suc t ≤ j → up_to_letter j (padded k tail) ≡ up_to_letter j (padded left (replicate i (suc t) ++ tail))
      after_t j h =
          let a = up_to-padded j k tail in
          let c = up_to-padded j left (replicate i (suc t) ++ tail) in
          let d' = up_to-append j (replicate i (suc t)) tail in
          let r = up_to-run j i (suc t) h in
          omega arith

      at_t : up_to_letter t (padded left (replicate i (suc t) ++ tail)) ≡ left
      at_t =
          let c = up_to-padded t left (replicate i (suc t) ++ tail) in
          let d' = up_to-append t (replicate i (suc t)) tail in
          let r = up_to-late t i (suc t) (omega arith) in
          let o = one_more_letter t tail in
          omega arith

      row : (q : Bool) → kept_row q d (suc t) (padded k tail) ++ mark q left ≡ kept_row q (suc d) t (padded left (replicate i (suc t) ++ tail))
      row false = refl
      row true =
          ap₂ (λ (m : List ℕ) (x : ℕ). m ++ (x ∷ [])) (places-ext d (suc t) (padded k tail) (padded left (replicate i (suc t) ++ tail)) after_t) (sym at_t)
          ∙ sym (places-last d t (padded left (replicate i (suc t) ++ tail)))

  may_leave : ℕ → ℕ → List ℕ → ℕ → Bool
  may_leave t k above left = strip_at t ν (k - left) && some_row t b (left - b) above

  passing : (t k : ℕ) (above s : List ℕ) (S : ℕ → ℕ) (m : ℕ) → k ≡ b + m → t < n → ((j : ℕ) → j < suc t → get_or s j 0 ≡ get_or ν j 0)
      → sum_by (λ left. cond (may_leave t k above left) (S left) 0) (numbers_from b (m + 1))
      ≡ sum_by S (numbers_from (least_left b t k s) (most_left b t k above + 1 - least_left b t k s))
  unfolding may_leave
  passing zero k above s S m e l same =
      range-passing (λ left. strip_at 0 ν (k - left) && some_row 0 b (left - b) above) S (b + 1) b b (m + 1) (omega arith) (λ x g h. absurd (omega arith))
      (λ x g h. let z : x - b ≡ 0 = omega arith in ap (λ (y : ℕ). some_row 0 b y above) z)
      (λ x g h q. let z : x - b ≡ suc (x - b - 1) = omega arith in ap (λ (y : ℕ). some_row 0 b y above) z) (omega arith)
  passing (suc t) k above s S m e l same =
      range-passing (λ left. nat_le (get_or ν (suc t) 0 + (k - left)) (get_or ν t 0) && may_precede nat_le (b + (left - b)) above) S (greatest_letter k above + 1) b (least_left b (suc t) k s) (m + 1)
      (omega arith) too_low (λ x g h. fits x g h above refl) (λ x g h q. too_high x g h (omega arith) above refl) (most above)
    where
      here : get_or s (suc t) 0 ≡ get_or ν (suc t) 0
      here = same (suc t) (omega arith)

      before : get_or s t 0 ≡ get_or ν t 0
      before = same t (omega arith)

      most : (r : List ℕ) → greatest_letter k r + 1 ≤ b + (m + 1)
      most [] = omega arith
      most (a ∷ r) = omega arith

      too_low : (x : ℕ) → b ≤ x → x < least_left b (suc t) k s → nat_le (get_or ν (suc t) 0 + (k - x)) (get_or ν t 0) && may_precede nat_le (b + (x - b)) above ≡ false
      too_low x g h =
          let u = here in let v = before in let w = falls t in
          ap (λ q. q && may_precede nat_le (b + (x - b)) above) (lt-leb (get_or ν (suc t) 0 + (k - x)) (get_or ν t 0) (omega arith))

      fits : (x : ℕ) → least_left b (suc t) k s ≤ x → x < greatest_letter k above + 1 → (r : List ℕ) → above ≡ r → nat_le (get_or ν (suc t) 0 + (k - x)) (get_or ν t 0) && may_precede nat_le (b + (x - b)) above ≡ true
      fits x g h r is =
          let u = here in let v = before in let w = falls t in
          ap₂ (λ (p q : Bool). p && q) (le-leb (get_or ν (suc t) 0 + (k - x)) (get_or ν t 0) (omega arith))
          (ap (may_precede nat_le (b + (x - b))) is ∙ by r (subst (λ z. x < greatest_letter k z + 1) is h))
        where
          by : (r : List ℕ) → x < greatest_letter k r + 1 → may_precede nat_le (b + (x - b)) r ≡ true
          by [] q = refl
          by (a ∷ r) q = le-leb (b + (x - b)) a (omega arith)

      too_high : (x : ℕ) → least_left b (suc t) k s ≤ x → greatest_letter k above + 1 ≤ x → x ≤ k → (r : List ℕ) → above ≡ r → nat_le (get_or ν (suc t) 0 + (k - x)) (get_or ν t 0) && may_precede nat_le (b + (x - b)) above ≡ false
      too_high x g h q r is =
          and_right (nat_le (get_or ν (suc t) 0 + (k - x)) (get_or ν t 0)) _ (ap (may_precede nat_le (b + (x - b))) is ∙ by r (subst (λ z. greatest_letter k z + 1 ≤ x) is h))
        where
          by : (r : List ℕ) → greatest_letter k r + 1 ≤ x → may_precede nat_le (b + (x - b)) r ≡ false
          by [] z = absurd (omega arith)
          by (a ∷ r) z = lt-leb (b + (x - b)) a (omega arith)

  row_sum : (t d m : ℕ) (tail above : List ℕ) → t + d ≡ n → up_to_letter t tail ≡ 0
      → over_rising t m (λ v. cond (row_test t ν above (padded b (v ++ tail))) (pos (value (padded b (v ++ tail)))) (pos 0))
      ≡ pos (cond (some_row t b m above) (filled kept n b t (b + m) (drop 1 above) f (state d t (b + m) tail)) 0)
  unfolding value state may_leave
  row_sum zero d zero tail above e none =
      let n' : d ≡ n = omega arith in
      let z : b + 0 ≡ b = omega arith in
      rising-none 0 (λ v. cond (row_test 0 ν above (padded b (v ++ tail))) (pos (f (join ν (content n (padded b (v ++ tail)))) (kept_row kept n 0 (padded b (v ++ tail))))) (pos 0))
      ∙ ap pos (sym (at-parts n f (join ν (counts d 0 tail)) (kept_row kept d 0 (padded (b + 0) tail)) (ends d n')
      ∙ ap₂ f (ap (join ν) (sym (counts-content d 0 tail) ∙ ap (λ k. content k tail) n' ∙ content_same n tail (padded b tail) (λ k h. sym (times-padded k b tail h))))
      (ap₂ (λ (k c : ℕ). kept_row kept k 0 (padded c tail)) n' z)))
    where
      ends : (d : ℕ) → d ≡ n → length (join ν (counts d 0 tail)) ≡ n
      ends d n' =
          let j = length-join ν (counts d 0 tail) in
          let c = ap (λ (l : List ℕ). length l) (counts-content d 0 tail) in
          let l = length_content d tail in
          omega arith
  row_sum zero d (suc m) tail above e none = refl
  row_sum (suc t) d m tail above e none =
      rising-greatest t m (λ v. cond (row_test (suc t) ν above (padded b (v ++ tail))) (pos (value (padded b (v ++ tail)))) (pos 0))
      ∙ total_down_from-ext _ (λ i. pos (part i)) m (one (λ i h. row_sum t (suc d) (m - i) (replicate i (suc t) ++ tail) (drop 1 above) (omega arith) (rest_none i)))
      ∙ down-numbers b m part
      ∙ ap pos (numbers-ext (λ left. part (b + m - left)) (λ left. cond (may_precede nat_le (b + m) above) (cond (may_leave t (b + m) (drop 1 above) left) (S left) 0) 0) b (m + 1) (λ left g h. same_part left g (omega arith))
      ∙ sum-tested (may_precede nat_le (b + m) above) (λ left. cond (may_leave t (b + m) (drop 1 above) left) (S left) 0) b (m + 1)
      ∙ ap (λ x. cond (may_precede nat_le (b + m) above) x 0)
      (passing t (b + m) (drop 1 above) (state d (suc t) (b + m) tail) S m refl (omega arith)
      (λ j h. joined-before (suc t) j ν (counts d (suc t) tail) (kept_row kept d (suc t) (padded (b + m) tail)) h (omega arith))))
    where
      part : ℕ → ℕ
      part i = cond (may_precede nat_le (b + m) above)
          (cond (strip_at t ν i && some_row t b (m - i) (drop 1 above))
          (filled kept n b t (b + (m - i)) (drop 1 (drop 1 above)) f (state (suc d) t (b + (m - i)) (replicate i (suc t) ++ tail))) 0) 0

      S : ℕ → ℕ
      S left = filled kept n b t left (drop 1 (drop 1 above)) f (added t (b + m - left) (state d (suc t) (b + m) tail) ++ mark kept left)

      rest_none : (i : ℕ) → up_to_letter t (replicate i (suc t) ++ tail) ≡ 0
      rest_none i =
          let a = up_to-append t (replicate i (suc t)) tail in
          let r = up_to-late t i (suc t) (omega arith) in
          let o = one_more_letter t tail in
          omega arith

      one : ((i : ℕ) → i ≤ m → over_rising t (m - i) (λ v. cond (row_test t ν (drop 1 above) (padded b (v ++ (replicate i (suc t) ++ tail)))) (pos (value (padded b (v ++ (replicate i (suc t) ++ tail))))) (pos 0))
          ≡ pos (cond (some_row t b (m - i) (drop 1 above)) (filled kept n b t (b + (m - i)) (drop 1 (drop 1 above)) f (state (suc d) t (b + (m - i)) (replicate i (suc t) ++ tail))) 0))
          → (i : ℕ) → i ≤ m
          → over_rising t (m - i) (λ v. cond (row_test (suc t) ν above (padded b (ended t i v ++ tail))) (pos (value (padded b (ended t i v ++ tail)))) (pos 0)) ≡ pos (part i)
      one rec i h =
          rising-ext t (m - i) _
          (λ v. cond (may_precede nat_le (b + m) above && (strip_at t ν i && row_test t ν (drop 1 above) (padded b (v ++ (replicate i (suc t) ++ tail))))) (pos (value (padded b (v ++ (replicate i (suc t) ++ tail))))) (pos 0))
          (λ v l q. tested v l q)
          ∙ pulled t (m - i) (may_precede nat_le (b + m) above) (strip_at t ν i) (λ v. row_test t ν (drop 1 above) (padded b (v ++ (replicate i (suc t) ++ tail)))) (λ v. pos (value (padded b (v ++ (replicate i (suc t) ++ tail)))))
          ∙ ap (λ z. cond (may_precede nat_le (b + m) above) (cond (strip_at t ν i) z (pos 0)) (pos 0)) (rec i h)
          ∙ pos-tests (may_precede nat_le (b + m) above) (strip_at t ν i) (some_row t b (m - i) (drop 1 above)) (filled kept n b t (b + (m - i)) (drop 1 (drop 1 above)) f (state (suc d) t (b + (m - i)) (replicate i (suc t) ++ tail)))
        where
          tested : (v : List ℕ) → length v ≡ m - i → AreLetters t v
              → cond (row_test (suc t) ν above (padded b (ended t i v ++ tail))) (pos (value (padded b (ended t i v ++ tail)))) (pos 0)
              ≡ cond (may_precede nat_le (b + m) above && (strip_at t ν i && row_test t ν (drop 1 above) (padded b (v ++ (replicate i (suc t) ++ tail))))) (pos (value (padded b (v ++ (replicate i (suc t) ++ tail))))) (pos 0)
          tested v l q =
              ap (λ (w : List ℕ). cond (row_test (suc t) ν above (padded b w)) (pos (value (padded b w))) (pos 0)) (append_assoc v (replicate i (suc t)) tail)
              ∙ ap₂ (λ (x y : ℕ). cond (may_precede nat_le x above && (strip_at t ν y && row_test t ν (drop 1 above) whole)) (pos (value whole)) (pos 0)) all greatest
            where
              whole : List ℕ
              whole = padded b (v ++ (replicate i (suc t) ++ tail))

              all : up_to_letter (suc t) (padded b (v ++ (replicate i (suc t) ++ tail))) ≡ b + m
              all =
                  let a = up_to-padded (suc t) b (v ++ (replicate i (suc t) ++ tail)) in
                  let c = up_to-append (suc t) v (replicate i (suc t) ++ tail) in
                  let c' = up_to-append (suc t) (replicate i (suc t)) tail in
                  let r = up_to-run (suc t) i (suc t) (omega arith) in
                  let s = up_to-all (suc t) t v q (omega arith) in
                  omega arith

              greatest : times_in (suc t) (padded b (v ++ (replicate i (suc t) ++ tail))) ≡ i
              greatest =
                  let a = times-padded (suc t) b (v ++ (replicate i (suc t) ++ tail)) (omega arith) in
                  let c = times_in-append (suc t) v (replicate i (suc t) ++ tail) in
                  let c' = times_in-append (suc t) (replicate i (suc t)) tail in
                  let r = times_in-itself (suc t) i in
                  let s = times_in-higher t (suc t) v q (omega arith) in
                  let z = few_times (suc t) tail in
                  omega arith

      same_part : (left : ℕ) → b ≤ left → left ≤ b + m
          → part (b + m - left) ≡ cond (may_precede nat_le (b + m) above) (cond (may_leave t (b + m) (drop 1 above) left) (S left) 0) 0
      same_part left g h =
          let i : m - (b + m - left) ≡ left - b = omega arith in
          let c : b + (m - (b + m - left)) ≡ left = omega arith in
          ap₂ (λ (x y : ℕ). cond (may_precede nat_le (b + m) above)
          (cond (strip_at t ν (b + m - left) && some_row t b x (drop 1 above))
          (filled kept n b t y (drop 1 (drop 1 above)) f (state (suc d) t y (replicate (b + m - left) (suc t) ++ tail))) 0) 0) i c
          ∙ ap (λ (s : List ℕ). cond (may_precede nat_le (b + m) above)
          (cond (strip_at t ν (b + m - left) && some_row t b (left - b) (drop 1 above)) (filled kept n b t left (drop 1 (drop 1 above)) f s) 0) 0)
          (sym (state-next d t left (b + m - left) (b + m) tail (omega arith) (omega arith) none))

pub over_row_words : (n b m : ℕ) (kept : Bool) (f : List ℕ → List ℕ → ℕ) (ν above : List ℕ) → 0 < n → length ν ≡ n → ((i : ℕ) → get_or ν (suc i) 0 ≤ get_or ν i 0)
    → total (λ (w : List ℕ). cond (is_chain nat_le w && row_test n ν above w) (pos (f (join ν (content n w)) (kept_row kept n 0 w))) (pos 0)) (words_over n (line_of b m))
    ≡ pos (next_row n kept b (b + m) f ν above)
unfolding state value
over_row_words zero b m kept f ν above some long falls = absurd (omega arith)
over_row_words (suc t) b m kept f ν above some long falls =
    ap (total (λ (w : List ℕ). cond (is_chain nat_le w && row_test (suc t) ν above w) (pos (f (join ν (content (suc t) w)) (kept_row kept (suc t) 0 w))) (pos 0))) (words_over-line (suc t) b m)
    ∙ total_map (λ (w : List ℕ). cond (is_chain nat_le w && row_test (suc t) ν above w) (pos (f (join ν (content (suc t) w)) (kept_row kept (suc t) 0 w))) (pos 0)) (λ (w : List ℕ). replicate b 0 ++ w) (words (suc t) m)
    ∙ total_ext (λ (v : List ℕ). cond (is_chain nat_le (padded b v) && row_test (suc t) ν above (padded b v)) (pos (f (join ν (content (suc t) (padded b v))) (kept_row kept (suc t) 0 (padded b v)))) (pos 0))
    (λ (v : List ℕ). cond (row_rises v) (cond (row_test (suc t) ν above (padded b (v ++ []))) (pos (f (join ν (content (suc t) (padded b (v ++ [])))) (kept_row kept (suc t) 0 (padded b (v ++ []))))) (pos 0)) (pos 0))
    (λ v. sym (nested_tests (is_chain nat_le (padded b v)) (row_test (suc t) ν above (padded b v)) (pos (f (join ν (content (suc t) (padded b v))) (kept_row kept (suc t) 0 (padded b v)))))
    ∙ ap₂ (λ (p : Bool) (w : List ℕ). cond p (cond (row_test (suc t) ν above (padded b w)) (pos (f (join ν (content (suc t) (padded b w))) (kept_row kept (suc t) 0 (padded b w)))) (pos 0)) (pos 0)) (zeros_first b v ∙ chain_row v) (sym (append-nil v)))
    (words (suc t) m)
    ∙ row_sum (suc t) b kept f ν long falls (suc t) 0 m [] above (omega arith) refl
    ∙ ap (λ (s : List ℕ). pos (cond (may_precede nat_le (b + m) above) (filled kept (suc t) b (suc t) (b + m) (drop 1 above) f s) 0)) (begin kept)
  where
    begin : (q : Bool) → joined (suc t) ν [] ++ kept_row q 0 (suc t) (padded (b + m) []) ≡ ν
    begin true = append-nil (joined (suc t) ν []) ∙ ap (λ k. joined k ν []) (sym long) ∙ joined-none ν
    begin false = append-nil (joined (suc t) ν []) ∙ ap (λ k. joined k ν []) (sym long) ∙ joined-none ν

pub join-none : (n : ℕ) (ν : List ℕ) → length ν ≡ n → join ν (replicate n 0) ≡ ν
join-none zero [] e = refl
join-none (suc n) [] e = absurd (omega arith)
join-none zero (a ∷ ν) e = absurd (omega arith)
join-none (suc n) (a ∷ ν) e = let z : a + 0 ≡ a = omega arith in ap₂ ◌∷◌ z (join-none n ν (omega arith))
