-- A permutation x is a cover of w at the place r in at most one way: the letter of x at r determines the other place of the exchange.
--     one_cover      x occurs at most once in the two lists of covers of w at r
use Rattle.std.proofs.Common.{◌≡◌, ℕ, zero, suc, ◌+◌, ◌-◌, ◌<◌, ◌≤◌, ◌==◌, max, Bool, true, false, cond, List, [], ◌∷◌, map, length, get_or, refl, sym, ap, ◌∙◌, subst, inl, inr, arith, length-append, eqb-true, filter}
use Rattle.std.proofs.lemmas.Bool.{cases_lt, eq-eqb}
use Rattle.sym_model.specs.Sum.{Among, Once}
use Rattle.sym_model.specs.Partition.{after}
use Rattle.sym_model.specs.PlaceOrders.{inversions}
use Rattle.sym_model.specs.Permutation.{IsOneLine, letter, with_fixed, swapped, times_swap, covers_up, covers_down}
use Rattle.sym_model.specs.Polynomial.{same}
use Rattle.sym_model.proofs.AfterLists.{length_after, after_among}
use Rattle.sym_model.proofs.Exponents.{same_true}
use Rattle.schubert_laws.proofs.LowerPermutations.{letter_added, letter_kept}
use Rattle.schubert_laws.proofs.MonkFromOne.{swap_is}
use Rattle.schubert_laws.proofs.Swaps.{get_swap_left, get_swap_right, among_get}
use Rattle.schubert_laws.proofs.Ranks.{letter_within}
use Rattle.monk_product.specs.Monk.{count_of}
use Rattle.std.proofs.lemmas.List.{get_or_past, get_or_default}

reaches : (w : List ℕ) (j : ℕ) → j ≤ length (with_fixed j w)
reaches w j =
    let a = length-append w (after (length w) (j - length w)) in
    let b = length_after (length w) (j - length w) in
    omega arith

letter_first : (i j : ℕ) (w : List ℕ) → 1 ≤ i → i < j → letter (times_swap i j w) i ≡ letter w j
letter_first i j w h l =
    let long : List ℕ = with_fixed j w in
    let n = reaches w j in
    let a : i - 1 < length (with_fixed j w) = omega arith in
    let b : j - 1 < length (with_fixed j w) = omega arith in
    letter_kept (swapped i j (with_fixed j w)) i h
    ∙ ap (λ v. get_or v (i - 1) i) (swap_is (with_fixed j w) (i - 1) (j - 1) a b)
    ∙ get_swap_left (i - 1) (j - 1) i (with_fixed j w) a b
    ∙ get_or_default (with_fixed j w) (j - 1) i j b
    ∙ letter_added (j - length w) w j (omega arith)

letter_second : (i j : ℕ) (w : List ℕ) → 1 ≤ i → i < j → letter (times_swap i j w) j ≡ letter w i
letter_second i j w h l =
    let n = reaches w j in
    let a : i - 1 < length (with_fixed j w) = omega arith in
    let b : j - 1 < length (with_fixed j w) = omega arith in
    letter_kept (swapped i j (with_fixed j w)) j (omega arith)
    ∙ ap (λ v. get_or v (j - 1) j) (swap_is (with_fixed j w) (i - 1) (j - 1) a b)
    ∙ get_swap_right (i - 1) (j - 1) j (with_fixed j w) a b
    ∙ get_or_default (with_fixed j w) (i - 1) j i a
    ∙ letter_added (j - length w) w i h

entries_apart : (w : List ℕ) (a b p q : ℕ) → Once w → a < b → b < length w → get_or w a p ≡ get_or w b q → ⊥
entries_apart [] a b p q o h l e = omega arith
entries_apart (x ∷ w) zero zero p q o h l e = omega arith
entries_apart (x ∷ w) zero (suc b) p q o h l e = o.0 (subst (λ z. Among z w) (sym e) (among_get b q w (omega arith)))
entries_apart (x ∷ w) (suc a) zero p q o h l e = omega arith
entries_apart (x ∷ w) (suc a) (suc b) p q o h l e = entries_apart w a b p q o.1 (omega arith) (omega arith) e

letters_apart : (w : List ℕ) (i j : ℕ) → IsOneLine w → 1 ≤ i → i < j → letter w i ≡ letter w j → ⊥
letters_apart w i j o h l e = elim (cases_lt (j - 1) (length w)) [
  | inl m ↦ entries_apart w (i - 1) (j - 1) i j o.once (omega arith) m e
  | inr m ↦
      let p = get_or_past w (j - 1) j m in
      elim (cases_lt (i - 1) (length w)) [
        | inl k ↦ (let b = letter_within w i o (omega arith) in omega arith)
        | inr k ↦ (let q = get_or_past w (i - 1) i k in omega arith)
      ]
]

-- ---- the number of places j of a list js at which w has the letter y

abbrev hits : List ℕ → ℕ → List ℕ → ℕ
hits w y [] = 0
hits w y (j ∷ js) = cond (letter w j == y) 1 0 + hits w y js

none_hit : (w : List ℕ) (y a k : ℕ) → ((j : ℕ) → a < j → letter w j ≡ y → ⊥) → hits w y (after a k) ≡ 0
none_hit w y a zero n = refl
none_hit w y a (suc k) n = by (letter w (a + 1) == y) refl (none_hit w y (a + 1) k (λ j l. n j (omega arith)))
  where
    by : (b : Bool) → (letter w (a + 1) == y) ≡ b → hits w y (after (a + 1) k) ≡ 0 → cond b 1 0 + hits w y (after (a + 1) k) ≡ 0
    by true e r = absurd (n (a + 1) (omega arith) (eqb-true (letter w (a + 1)) y e))
    by false e r = omega arith

one_hit : (w : List ℕ) (y a k : ℕ) → IsOneLine w → hits w y (after a k) ≤ 1
one_hit w y a zero o = omega arith
one_hit w y a (suc k) o = by (letter w (a + 1) == y) refl (one_hit w y (a + 1) k o)
  where
    by : (b : Bool) → (letter w (a + 1) == y) ≡ b → hits w y (after (a + 1) k) ≤ 1 → cond b 1 0 + hits w y (after (a + 1) k) ≤ 1
    by true e r =
        let n = none_hit w y (a + 1) k (λ j l f. letters_apart w (a + 1) j o (omega arith) l (eqb-true (letter w (a + 1)) y e ∙ sym f)) in
        omega arith
    by false e r = omega arith

hits_split : (w : List ℕ) (y a m n : ℕ) → hits w y (after a (m + n)) ≡ hits w y (after a m) + hits w y (after (a + m) n)
hits_split w y a zero n =
    let e : 0 + n ≡ n = omega arith in
    let f : a + 0 ≡ a = omega arith in
    let p = ap (λ k. hits w y (after a k)) e in
    let q = ap (λ k. hits w y (after k n)) f in
    omega arith
hits_split w y a (suc m) n =
    let e : suc m + n ≡ suc (m + n) = omega arith in
    let f : a + suc m ≡ a + 1 + m = omega arith in
    let p = ap (λ k. hits w y (after a k)) e in
    let q = ap (λ k. hits w y (after k n)) f in
    let r = hits_split w y (a + 1) m n in
    omega arith

counted : (x w : List ℕ) (r : ℕ) (test : List ℕ → Bool) (f : ℕ → List ℕ) (js : List ℕ) → ((j : ℕ) → Among j js → letter (f j) r ≡ letter w j)
    → count_of x (filter test (map f js)) ≤ hits w (letter x r) js
counted x w r test f [] h = omega arith
counted x w r test f (j ∷ js) h = by (test (f j)) (same (f j) x) refl (counted x w r test f js (λ k m. h k (inr m)))
  where
    here : same (f j) x ≡ true → (letter w j == letter x r) ≡ true
    here e = eq-eqb (letter w j) (letter x r) (sym (h j (inl refl)) ∙ ap (λ v. letter v r) (same_true (f j) x e))

    by : (b s : Bool) → same (f j) x ≡ s → count_of x (filter test (map f js)) ≤ hits w (letter x r) js
        → count_of x (cond b (f j ∷ filter test (map f js)) (filter test (map f js))) ≤ cond (letter w j == letter x r) 1 0 + hits w (letter x r) js
    by false s e l = omega arith
    by true false e l = let p = ap (λ t. cond t 1 0 + count_of x (filter test (map f js))) e in omega arith
    by true true e l =
        let p = ap (λ t. cond t 1 0 + count_of x (filter test (map f js))) e in
        let q = ap (λ t. cond t 1 0 + hits w (letter x r) js) (here e) in
        omega arith

pub one_cover : (r : ℕ) (w x : List ℕ) → IsOneLine w → 1 ≤ r → count_of x (covers_up r w) + count_of x (covers_down r w) ≤ 1
one_cover r w x o h =
    let k = max (length w) r + 1 - r in
    let y = letter x r in
    let up = counted x w r (λ v. inversions v == inversions w + 1) (λ j. times_swap r j w) (after r (max (length w) r + 1 - r))
    (λ j m. letter_first r j w h (after_among r (max (length w) r + 1 - r) j m).0) in
    let down = counted x w r (λ v. inversions v == inversions w + 1) (λ i. times_swap i r w) (after 0 (r - 1))
    (λ i m. let g = after_among 0 (r - 1) i m in let g0 = g.0 in let g1 = g.1 in letter_second i r w (omega arith) (omega arith)) in
    let all = hits_split w (letter x r) 0 (r - 1) (suc (max (length w) r + 1 - r)) in
    let one = one_hit w (letter x r) 0 (r - 1 + suc (max (length w) r + 1 - r)) o in
    let e : 0 + (r - 1) + 1 ≡ r = omega arith in
    let p = ap (λ a. hits w (letter x r) (after a (max (length w) r + 1 - r))) e in
    omega arith
