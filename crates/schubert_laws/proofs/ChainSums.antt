-- The sum of a function over the ends of the chains of `chains_from m d k w`, and the step from k to k + 1 for all chains in which the greater letters
-- are at most m (`one_place_more`). For m = the number of letters this is the step of Pieri's formula by Monk's rule at the place k + 1; places are
-- counted from 0 in proofs, so that this place is k. The step is proved by induction on m.
use Rattle.std.proofs.Common.{◌≡◌, ℕ, zero, suc, ◌<◌, ◌≤◌, List, [], ◌∷◌, length, get_or, refl, sym, ◌∙◌, ap, ap₂, subst, arith, inl, inr, ◌⊎◌, cond, nat_lt, ◌==◌, Bool, true, false, ℤ, pos, ◌+ℤ◌, neg_ℤ, eq-eqb, eqb-true}
use Rattle.std.proofs.lemmas.Int.{ints}
use Rattle.std.proofs.lemmas.Bool.{cases_eq, cases_lt, lt-ltb, le-ltb, ne_eqb}
use Rattle.sym_model.specs.Sum.{Among}
use Rattle.sym_model.specs.Partition.{after}
use Rattle.sym_model.specs.Permutation.{IsOneLine}
use Rattle.sym_model.proofs.AfterLists.{length_after, among_after}
use Rattle.sym_model.proofs.Sums.{without, Among-without, length-without, length_within}
use Rattle.schubert_laws.specs.Chains.{letters_before}
use Rattle.schubert_laws.proofs.CoverTests.{letter_at, letter_is, different, exchanged_at, covers_only_if, up, two, two_disjoint, three_places}
use Rattle.schubert_laws.proofs.MonkFromOne.{one_line_swap}
use Rattle.schubert_laws.proofs.MonkStep.{is_cover}
use Rattle.schubert_laws.proofs.PlaceSums.{sum_below, sum_below_ext, sum_below_add, sum_below_none, sum_below_last, sum_below_neg, sum_below_differ, sum_below_exchange}
use Rattle.schubert_laws.proofs.Swaps.{swap_at, length-swap_at, among_get}

-- ---- the place of a letter

among_or : (m : ℕ) (w : List ℕ) → Among m w ⊎ (Among m w → ⊥)
among_or m [] = inr (λ e. e)
among_or m (a ∷ w) = elim (cases_eq m a) [
  | inl e ↦ inl (inl e)
  | inr n ↦ elim (among_or m w) [ inl i ↦ inl (inr i) | inr j ↦ inr (λ s. elim s [ inl e ↦ n e | inr i ↦ j i ]) ]
]

-- a permutation of N letters has each letter from 1 to N
pub has_letter : (m : ℕ) (w : List ℕ) → IsOneLine w → 1 ≤ m → m ≤ length w → Among m w
has_letter m w o h l = elim (among_or m w) [
  | inl i ↦ i
  | inr n ↦
      let i = among_after 0 (length w) m (omega arith) (omega arith) in
      let p = length-without m (after 0 (length w)) i in
      let q = length_after 0 (length w) in
      let r = length_within (without m (after 0 (length w)) i) w o.once (λ x j.
      let b = o.letters x j in
      let b0 = b.0 in
      let b1 = b.1 in
      elim (Among-without x m (after 0 (length w)) i (among_after 0 (length w) x (omega arith) (omega arith))) [
        | inl e ↦ absurd (n (subst (λ y. Among y w) e j))
        | inr k ↦ k
      ]) in
      absurd (omega arith)
]

pub place_in : (m d : ℕ) (w : List ℕ) → Among m w → (letters_before m w < length w) × (get_or w (letters_before m w) d ≡ m)
place_in m d [] i = absurd i
place_in m d (a ∷ w) i = by (a == m) refl (place_in m d w)
  where
    by : (t : Bool) → (a == m) ≡ t → (Among m w → (letters_before m w < length w) × (get_or w (letters_before m w) d ≡ m))
        → (letters_before m (a ∷ w) < suc (length w)) × (get_or (a ∷ w) (letters_before m (a ∷ w)) d ≡ m)
    by true e rec =
        let z : letters_before m (a ∷ w) ≡ 0 = ap (λ t. cond t 0 (suc (letters_before m w))) e in
        (omega arith, ap (λ j. get_or (a ∷ w) j d) z ∙ eqb-true a m e)
    by false e rec =
        let z : letters_before m (a ∷ w) ≡ suc (letters_before m w) = ap (λ t. cond t 0 (suc (letters_before m w))) e in
        let n : (m ≡ a → ⊥) = λ q. let r = eq-eqb a m (sym q) in cc in
        let j : Among m w = elim i [ inl q ↦ absurd (n q) | inr k ↦ k ] in
        let r = rec j in
        let r0 = r.0 in
        (omega arith, ap (λ j. get_or (a ∷ w) j d) z ∙ r.1)

pub place_below : (m : ℕ) (w : List ℕ) → IsOneLine w → 1 ≤ m → m ≤ length w → letters_before m w < length w
place_below m w o h l = (place_in m 0 w (has_letter m w o h l)).0

pub letter_there : (m : ℕ) (w : List ℕ) → IsOneLine w → 1 ≤ m → m ≤ length w → letter_at w (letters_before m w) ≡ m
letter_there m w o h l =
    letter_is w (letters_before m w) 0 (place_below m w o h l) ∙ (place_in m 0 w (has_letter m w o h l)).1

pub place_is : (m c : ℕ) (w : List ℕ) → IsOneLine w → 1 ≤ m → m ≤ length w → letter_at w c ≡ m → letters_before m w ≡ c
place_is m c w o h l e = different w o (letters_before m w) c (letter_there m w o h l ∙ sym e)

-- ---- sums over covers

pub if_less : (a b : ℕ) (x y : ℤ) → a < b → cond (nat_lt a b) x y ≡ x
if_less a b x y h = ap (λ t. cond t x y) (lt-ltb a b h)

pub if_not_less : (a b : ℕ) (x y : ℤ) → b ≤ a → cond (nat_lt a b) x y ≡ y
if_not_less a b x y h = ap (λ t. cond t x y) (le-ltb a b h)

-- a cover of w that swaps a < b has a smaller letter at a than at b in w; the sum over it is that of F if F and G agree there
pub up_ext : (F G : List ℕ → ℤ) (w : List ℕ) (a b : ℕ) → (is_cover w a b ≡ true → F (swap_at a b w) ≡ G (swap_at a b w)) → up F w a b ≡ up G w a b
up_ext F G w a b e = by (is_cover w a b) refl
  where
    by : (t : Bool) → is_cover w a b ≡ t → up F w a b ≡ up G w a b
    by true h = ap (λ t. cond t (F (swap_at a b w)) (pos 0)) h ∙ e h ∙ sym (ap (λ t. cond t (G (swap_at a b w)) (pos 0)) h)
    by false h = ap (λ t. cond t (F (swap_at a b w)) (pos 0)) h ∙ sym (ap (λ t. cond t (G (swap_at a b w)) (pos 0)) h)

up_zero : (t : Bool) → cond t (pos 0) (pos 0) ≡ pos 0
up_zero true = refl
up_zero false = refl

pub up_none : (F : List ℕ → ℤ) (w : List ℕ) (a b : ℕ) → (is_cover w a b ≡ true → F (swap_at a b w) ≡ pos 0) → up F w a b ≡ pos 0
up_none F w a b e = up_ext F (λ v. pos 0) w a b e ∙ up_zero (is_cover w a b)

up_add : (F G : List ℕ → ℤ) (w : List ℕ) (a b : ℕ) → up (λ v. F v +ℤ G v) w a b ≡ up F w a b +ℤ up G w a b
up_add F G w a b = by (is_cover w a b) (F (swap_at a b w)) (G (swap_at a b w))
  where
    by : (t : Bool) (x y : ℤ) → cond t (x +ℤ y) (pos 0) ≡ cond t x (pos 0) +ℤ cond t y (pos 0)
    by true x y = refl
    by false x y = refl

up_neg : (F : List ℕ → ℤ) (w : List ℕ) (a b : ℕ) → up (λ v. neg_ℤ (F v)) w a b ≡ neg_ℤ (up F w a b)
up_neg F w a b = by (is_cover w a b) (F (swap_at a b w))
  where
    by : (t : Bool) (x : ℤ) → cond t (neg_ℤ x) (pos 0) ≡ neg_ℤ (cond t x (pos 0))
    by true x = refl
    by false x = refl

up_sum : (n : ℕ) (F : ℕ → List ℕ → ℤ) (w : List ℕ) (a b : ℕ) → up (λ v. sum_below n (λ c. F c v)) w a b ≡ sum_below n (λ c. up (F c) w a b)
up_sum n F w a b = by (is_cover w a b) (λ c. F c (swap_at a b w))
  where
    by : (t : Bool) (f : ℕ → ℤ) → cond t (sum_below n f) (pos 0) ≡ sum_below n (λ c. cond t (f c) (pos 0))
    by true f = refl
    by false f = sym (sum_below_none n (λ c. pos 0) (λ c l. refl))

rises_only : (w : List ℕ) (a b : ℕ) → IsOneLine w → a < b → b < length w → is_cover w a b ≡ true → letter_at w a < letter_at w b
rises_only w a b o h l t = (covers_only_if a b w o h l t).0

-- the sum of G over the covers of w that swap the letter at b with one at the first k places, if b is after these places
abbrev pub lift : (List ℕ → ℤ) → List ℕ → ℕ → ℕ → ℤ
lift G w k b = cond (nat_lt b k) (pos 0) (sum_below k (λ a. up G w a b))

-- the sum of φ over the ends of the chains
abbrev pub chain_sum : ℕ → ℕ → ℕ → (List ℕ → ℤ) → List ℕ → ℤ
chain_sum zero zero k φ w = φ w
chain_sum zero (suc d) k φ w = pos 0
chain_sum (suc m) zero k φ w = chain_sum m zero k φ w
chain_sum (suc m) (suc d) k φ w = chain_sum m (suc d) k φ w +ℤ lift (λ v. chain_sum m d k φ v) w k (letters_before (suc m) w)

-- the terms of Monk's rule for w at the place k in which no letter is greater than m: the covers that swap the letter at k with a later one, minus those
-- that swap it with an earlier one; 0 if the letter at k is greater than m
abbrev pub later_term : ℕ → ℕ → (List ℕ → ℤ) → List ℕ → ℕ → ℤ
later_term m k G w b = cond (nat_lt k b) (cond (nat_lt m (letter_at w b)) (pos 0) (up G w k b)) (pos 0)

abbrev pub monk_part : ℕ → ℕ → (List ℕ → ℤ) → List ℕ → ℤ
monk_part m k G w = cond (nat_lt m (letter_at w k)) (pos 0) (sum_below (length w) (later_term m k G w) +ℤ neg_ℤ (sum_below k (λ a. up G w a k)))

part_none : (m k : ℕ) (G : List ℕ → ℤ) (w : List ℕ) → m < letter_at w k → monk_part m k G w ≡ pos 0
part_none m k G w h = if_less m (letter_at w k) _ _ h

pub part_some : (m k : ℕ) (G : List ℕ → ℤ) (w : List ℕ) → letter_at w k ≤ m
    → monk_part m k G w ≡ sum_below (length w) (later_term m k G w) +ℤ neg_ℤ (sum_below k (λ a. up G w a k))
part_some m k G w h = if_not_less m (letter_at w k) _ _ h

pub later_ext : (m k : ℕ) (F G : List ℕ → ℤ) (w : List ℕ) (b : ℕ) → (k < b → letter_at w b ≤ m → up F w k b ≡ up G w k b) → later_term m k F w b ≡ later_term m k G w b
later_ext m k F G w b e = elim (cases_lt k b) [
  | inl h ↦ elim (cases_lt m (letter_at w b)) [
    | inl l ↦
        if_less k b _ _ h ∙ if_less m (letter_at w b) _ _ l
        ∙ sym (if_less k b (cond (nat_lt m (letter_at w b)) (pos 0) (up G w k b)) (pos 0) h ∙ if_less m (letter_at w b) (pos 0) (up G w k b) l)
    | inr l ↦
        if_less k b _ _ h ∙ if_not_less m (letter_at w b) _ _ l ∙ e h l
        ∙ sym (if_less k b (cond (nat_lt m (letter_at w b)) (pos 0) (up G w k b)) (pos 0) h ∙ if_not_less m (letter_at w b) (pos 0) (up G w k b) l)
  ]
  | inr h ↦ if_not_less k b _ _ h ∙ sym (if_not_less k b (cond (nat_lt m (letter_at w b)) (pos 0) (up G w k b)) (pos 0) h)
]

later_none : (m k : ℕ) (F : List ℕ → ℤ) (w : List ℕ) (b : ℕ) → (k < b → letter_at w b ≤ m → up F w k b ≡ pos 0) → later_term m k F w b ≡ pos 0
later_none m k F w b e = elim (cases_lt k b) [
  | inl h ↦ elim (cases_lt m (letter_at w b)) [
    | inl l ↦ if_less k b _ _ h ∙ if_less m (letter_at w b) _ _ l
    | inr l ↦ if_less k b _ _ h ∙ if_not_less m (letter_at w b) _ _ l ∙ e h l
  ]
  | inr h ↦ if_not_less k b _ _ h
]

later_add : (m k : ℕ) (F G : List ℕ → ℤ) (w : List ℕ) (b : ℕ) → later_term m k (λ v. F v +ℤ G v) w b ≡ later_term m k F w b +ℤ later_term m k G w b
later_add m k F G w b = let e = up_add F G w k b in by (nat_lt k b) (nat_lt m (letter_at w b)) _ _ _ e
  where
    by : (s t : Bool) (x y z : ℤ) → x ≡ y +ℤ z → cond s (cond t (pos 0) x) (pos 0) ≡ cond s (cond t (pos 0) y) (pos 0) +ℤ cond s (cond t (pos 0) z) (pos 0)
    by true true x y z e = refl
    by true false x y z e = e
    by false t x y z e = refl

pub part_add : (m k : ℕ) (F G : List ℕ → ℤ) (w : List ℕ) → monk_part m k (λ v. F v +ℤ G v) w ≡ monk_part m k F w +ℤ monk_part m k G w
part_add m k F G w =
    let a = sum_below_ext (length w) (later_term m k (λ v. F v +ℤ G v) w) (λ b. later_term m k F w b +ℤ later_term m k G w b) (λ b l. later_add m k F G w b) in
    let b = sum_below_add (length w) (later_term m k F w) (later_term m k G w) in
    let c = sum_below_ext k (λ a. up (λ v. F v +ℤ G v) w a k) (λ a. up F w a k +ℤ up G w a k) (λ a l. up_add F G w a k) in
    let d = sum_below_add k (λ a. up F w a k) (λ a. up G w a k) in
    by (nat_lt m (letter_at w k))
    (sum_below (length w) (later_term m k (λ v. F v +ℤ G v) w) +ℤ neg_ℤ (sum_below k (λ a. up (λ v. F v +ℤ G v) w a k)))
    (sum_below (length w) (later_term m k F w) +ℤ neg_ℤ (sum_below k (λ a. up F w a k)))
    (sum_below (length w) (later_term m k G w) +ℤ neg_ℤ (sum_below k (λ a. up G w a k)))
    (omega (arith, ints))
  where
    by : (t : Bool) (x y z : ℤ) → x ≡ y +ℤ z → cond t (pos 0) x ≡ cond t (pos 0) y +ℤ cond t (pos 0) z
    by true x y z e = refl
    by false x y z e = e

pub lift_none : (G : List ℕ → ℤ) (w : List ℕ) (k b : ℕ) → b < k → lift G w k b ≡ pos 0
lift_none G w k b h = if_less b k _ _ h

pub lift_some : (G : List ℕ → ℤ) (w : List ℕ) (k b : ℕ) → k ≤ b → lift G w k b ≡ sum_below k (λ a. up G w a b)
lift_some G w k b h = if_not_less b k _ _ h

pub lift_ext : (F G : List ℕ → ℤ) (w : List ℕ) (k b : ℕ) → ((a : ℕ) → a < k → k ≤ b → F (swap_at a b w) ≡ G (swap_at a b w)) → lift F w k b ≡ lift G w k b
lift_ext F G w k b e = elim (cases_lt b k) [
  | inl h ↦ lift_none F w k b h ∙ sym (lift_none G w k b h)
  | inr h ↦
      lift_some F w k b h
      ∙ sum_below_ext k (λ a. up F w a b) (λ a. up G w a b) (λ a l. up_ext F G w a b (λ t. e a l h))
      ∙ sym (lift_some G w k b h)
]

lift_add : (F G : List ℕ → ℤ) (w : List ℕ) (k b : ℕ) → lift (λ v. F v +ℤ G v) w k b ≡ lift F w k b +ℤ lift G w k b
lift_add F G w k b = by (nat_lt b k) _ _ _ (
    sum_below_ext k (λ a. up (λ v. F v +ℤ G v) w a b) (λ a. up F w a b +ℤ up G w a b) (λ a l. up_add F G w a b)
    ∙ sum_below_add k (λ a. up F w a b) (λ a. up G w a b))
  where
    by : (t : Bool) (x y z : ℤ) → x ≡ y +ℤ z → cond t (pos 0) x ≡ cond t (pos 0) y +ℤ cond t (pos 0) z
    by true x y z e = refl
    by false x y z e = e

-- ---- the step for m + 1, if it is known for m: terms with one cover

record IsSetting (m k : ℕ) (w : List ℕ) : Type 0 where
  pub one_line : IsOneLine w
  pub place : k < length w
  pub letters : suc m ≤ length w

swapped_setting : (m k a b : ℕ) (w : List ℕ) → IsSetting m k w → a < length w → b < length w → IsSetting m k (swap_at a b w)
swapped_setting m k a b w s h l =
    let e = length-swap_at a b w in
    let p = s.place in
    let q = s.letters in
    record { one_line = one_line_swap a b w h l s.one_line; place = omega arith; letters = omega arith }

record IsTop (m : ℕ) (w : List ℕ) (b : ℕ) : Type 0 where
  pub within : b < length w
  pub letter : letter_at w b ≡ suc m
  pub is : letters_before (suc m) w ≡ b

the_top : (m k : ℕ) (w : List ℕ) → IsSetting m k w → IsTop m w (letters_before (suc m) w)
the_top m k w s = record {
  within = place_below (suc m) w s.one_line (omega arith) s.letters;
  letter = letter_there (suc m) w s.one_line (omega arith) s.letters;
  is = refl;
}

top_at : (m k c : ℕ) (w : List ℕ) → IsSetting m k w → letter_at w c ≡ suc m → letters_before (suc m) w ≡ c
top_at m k c w s e = place_is (suc m) c w s.one_line (omega arith) s.letters e

not_top : (m k b c : ℕ) (w : List ℕ) → IsSetting m k w → IsTop m w b → (c ≡ b → ⊥) → letter_at w c ≡ suc m → ⊥
not_top m k b c w s t n e = n (different w s.one_line c b (e ∙ sym t.letter))

later_same : (m k b c : ℕ) (G : List ℕ → ℤ) (w : List ℕ) → IsSetting m k w → IsTop m w b → (c ≡ b → ⊥) ⊎ (c ≤ k) → later_term (suc m) k G w c ≡ later_term m k G w c
later_same m k b c G w s t (inr h) = if_not_less k c _ _ h ∙ sym (if_not_less k c (cond (nat_lt m (letter_at w c)) (pos 0) (up G w k c)) (pos 0) h)
later_same m k b c G w s t (inl n) = ap (λ z. cond (nat_lt k c) z (pos 0)) (elim (cases_lt m (letter_at w c)) [
  | inl h ↦
      let x = not_top m k b c w s t n in
      if_less (suc m) (letter_at w c) _ _ (omega (arith, x)) ∙ sym (if_less m (letter_at w c) (pos 0) (up G w k c) h)
  | inr h ↦ if_not_less (suc m) (letter_at w c) _ _ (omega arith) ∙ sym (if_not_less m (letter_at w c) (pos 0) (up G w k c) h)
])

abbrev FirstTerms : ℕ → ℕ → (List ℕ → ℤ) → List ℕ → ℕ → Type 0
FirstTerms m k G w b = monk_part m k G w +ℤ lift G w (suc k) b ≡ lift G w k b +ℤ monk_part (suc m) k G w

first_before : (m k b : ℕ) (G : List ℕ → ℤ) (w : List ℕ) → IsSetting m k w → IsTop m w b → b < k → FirstTerms m k G w b
first_before m k b G w s t h =
    let p = lift_none G w (suc k) b (omega arith) in
    let q = lift_none G w k b h in
    let e = part_same in
    omega (arith, ints)
  where
    part_same : monk_part m k G w ≡ monk_part (suc m) k G w
    part_same = elim (cases_lt m (letter_at w k)) [
      | inl l ↦
          let n = not_top m k b k w s t (λ z. omega arith) in
          part_none m k G w l ∙ sym (part_none (suc m) k G w (omega (arith, n)))
      | inr l ↦
          part_some m k G w l
          ∙ ap (λ z. z +ℤ neg_ℤ (sum_below k (λ a. up G w a k)))
          (sum_below_ext (length w) (later_term m k G w) (later_term (suc m) k G w) (λ c i.
          sym (later_same m k b c G w s t (elim (cases_eq c b) [ inl e ↦ inr (omega arith) | inr n ↦ inl n ]))))
          ∙ sym (part_some (suc m) k G w (omega arith))
    ]

first_here : (m k : ℕ) (G : List ℕ → ℤ) (w : List ℕ) → IsSetting m k w → IsTop m w k → FirstTerms m k G w k
first_here m k G w s t =
    let p = lift_none G w (suc k) k (omega arith) in
    let q = lift_some G w k k (omega arith) in
    let l = t.letter in
    let x = part_none m k G w (omega arith) in
    let y = part_some (suc m) k G w (omega arith) in
    let z = sum_below_none (length w) (later_term (suc m) k G w) (λ b i. later_none (suc m) k G w b (λ h f.
    up_none G w k b (λ c. absurd (let r = rises_only w k b s.one_line h i c in omega arith)))) in
    omega (arith, ints)

first_high : (m k b : ℕ) (G : List ℕ → ℤ) (w : List ℕ) → IsSetting m k w → IsTop m w b → k < b → suc m < letter_at w k → FirstTerms m k G w b
first_high m k b G w s t h f =
    let p = lift_some G w (suc k) b (omega arith) in
    let q = lift_some G w k b (omega arith) in
    let l = t.letter in
    let x = part_none m k G w (omega arith) in
    let y = part_none (suc m) k G w f in
    let z = sum_below_last k (λ a. up G w a b) in
    let n = up_none G w k b (λ c. absurd (let r = rises_only w k b s.one_line h t.within c in omega arith)) in
    omega (arith, ints)

first_low : (m k b : ℕ) (G : List ℕ → ℤ) (w : List ℕ) → IsSetting m k w → IsTop m w b → k < b → letter_at w k ≤ m → FirstTerms m k G w b
first_low m k b G w s t h f =
    let p = lift_some G w (suc k) b (omega arith) in
    let q = lift_some G w k b (omega arith) in
    let l = t.letter in
    let x = part_some m k G w f in
    let y = part_some (suc m) k G w (omega arith) in
    let z = sum_below_last k (λ a. up G w a b) in
    let d = sum_below_differ (length w) b (later_term (suc m) k G w) (later_term m k G w) t.within (λ c i n. later_same m k b c G w s t (inl n)) in
    let u = if_less k b (cond (nat_lt (suc m) (letter_at w b)) (pos 0) (up G w k b)) (pos 0) h
    ∙ if_not_less (suc m) (letter_at w b) (pos 0) (up G w k b) (omega arith) in
    let v = if_less k b (cond (nat_lt m (letter_at w b)) (pos 0) (up G w k b)) (pos 0) h
    ∙ if_less m (letter_at w b) (pos 0) (up G w k b) (omega arith) in
    omega (arith, ints)

abbrev Which : ℕ → ℕ → ℕ → ℕ → Type 0
Which m k b x = (b < k) ⊎ (b ≡ k) ⊎ ((k < b) × (suc m < x)) ⊎ ((k < b) × (x ≤ m))

which : (m k b : ℕ) (w : List ℕ) → IsSetting m k w → IsTop m w b → Which m k b (letter_at w k)
which m k b w s t = elim (cases_lt b k) [
  | inl h ↦ inl h
  | inr h ↦ elim (cases_eq b k) [
    | inl e ↦ inr (inl e)
    | inr n ↦
        let l : k < b = omega arith in
        let x = not_top m k b k w s t (λ z. omega arith) in
        elim (cases_lt (suc m) (letter_at w k)) [ inl f ↦ inr (inr (inl (l, f))) | inr f ↦ inr (inr (inr (l, omega (arith, x)))) ]
  ]
]

first_terms : (m k b : ℕ) (G : List ℕ → ℤ) (w : List ℕ) → IsSetting m k w → IsTop m w b → Which m k b (letter_at w k) → FirstTerms m k G w b
first_terms m k b G w s t (inl h) = first_before m k b G w s t h
first_terms m k b G w s t (inr (inl e)) = subst (FirstTerms m k G w) (sym e) (first_here m k G w s (subst (IsTop m w) e t))
first_terms m k b G w s t (inr (inr (inl h))) = first_high m k b G w s t h.0 h.1
first_terms m k b G w s t (inr (inr (inr h))) = first_low m k b G w s t h.0 h.1

-- ---- terms with two covers

-- G at each list, by the covers that swap the letter m + 1 with one at the first k places
abbrev lifted_sum : ℕ → ℕ → (List ℕ → ℤ) → List ℕ → ℤ
lifted_sum m k G v = lift G v k (letters_before (suc m) v)

abbrev SecondTerms : ℕ → ℕ → (List ℕ → ℤ) → List ℕ → ℕ → Type 0
SecondTerms m k G w b = lift (monk_part m k G) w (suc k) b ≡ monk_part (suc m) k (lifted_sum m k G) w

-- swapping the letters at c and d does not move the letter m + 1
top_stays : (m k b c d : ℕ) (w : List ℕ) → IsSetting m k w → IsTop m w b → c < length w → d < length w → (b ≡ c → ⊥) → (b ≡ d → ⊥)
    → letters_before (suc m) (swap_at c d w) ≡ b
top_stays m k b c d w s t h l n o =
    top_at m k b (swap_at c d w) (swapped_setting m k c d w s h l) ((exchanged_at c d w h l).2 b n o ∙ t.letter)

top_goes_left : (m k c d : ℕ) (w : List ℕ) → IsSetting m k w → IsTop m w d → c < length w → letters_before (suc m) (swap_at c d w) ≡ c
top_goes_left m k c d w s t h =
    top_at m k c (swap_at c d w) (swapped_setting m k c d w s h t.within) ((exchanged_at c d w h t.within).0 ∙ t.letter)

lifted_at : (m k b : ℕ) (G : List ℕ → ℤ) (v : List ℕ) → letters_before (suc m) v ≡ b → lifted_sum m k G v ≡ lift G v k b
lifted_at m k b G v e = ap (lift G v k) e

second_before : (m k b : ℕ) (G : List ℕ → ℤ) (w : List ℕ) → IsSetting m k w → IsTop m w b → b < k → SecondTerms m k G w b
second_before m k b G w s t h = lift_none (monk_part m k G) w (suc k) b (omega arith) ∙ sym none
  where
    inside : k < length w
    inside = s.place

    none : monk_part (suc m) k (lifted_sum m k G) w ≡ pos 0
    none = elim (cases_lt (suc m) (letter_at w k)) [
      | inl f ↦ part_none (suc m) k (lifted_sum m k G) w f
      | inr f ↦
          let p = part_some (suc m) k (lifted_sum m k G) w f in
          let l = t.letter in
          let q = sum_below_none (length w) (later_term (suc m) k (lifted_sum m k G) w) (λ c i. later_none (suc m) k (lifted_sum m k G) w c (λ g j.
          up_none (lifted_sum m k G) w k c (λ z.
          lifted_at m k b G (swap_at k c w) (top_stays m k b k c w s t inside i (λ e. omega arith) (λ e. omega arith)) ∙ lift_none G (swap_at k c w) k b h))) in
          let r = sum_below_none k (λ a. up (lifted_sum m k G) w a k) (λ a i.
          elim (cases_eq b a) [
            | inl e ↦ up_none (lifted_sum m k G) w a k (λ z.
                absurd (let r = rises_only w a k s.one_line i inside z in let u = ap (letter_at w) e in omega arith))
            | inr n ↦ up_none (lifted_sum m k G) w a k (λ z.
                lifted_at m k b G (swap_at a k w) (top_stays m k b a k w s t (let y = inside in omega arith) inside n (λ e. omega arith)) ∙ lift_none G (swap_at a k w) k b h)
          ]) in
          omega (arith, ints)
    ]

second_here : (m k : ℕ) (G : List ℕ → ℤ) (w : List ℕ) → IsSetting m k w → IsTop m w k → SecondTerms m k G w k
second_here m k G w s t = lift_none (monk_part m k G) w (suc k) k (omega arith) ∙ sym none
  where
    none : monk_part (suc m) k (lifted_sum m k G) w ≡ pos 0
    none =
        let l = t.letter in
        let inside = s.place in
        let p = part_some (suc m) k (lifted_sum m k G) w (omega arith) in
        let q = sum_below_none (length w) (later_term (suc m) k (lifted_sum m k G) w) (λ c i. later_none (suc m) k (lifted_sum m k G) w c (λ g j.
        up_none (lifted_sum m k G) w k c (λ z. absurd (let r = rises_only w k c s.one_line g i z in omega arith)))) in
        let r = sum_below_none k (λ a. up (lifted_sum m k G) w a k) (λ a i. up_none (lifted_sum m k G) w a k (λ z.
        lifted_at m k a G (swap_at a k w) (top_goes_left m k a k w s t (omega arith)) ∙ lift_none G (swap_at a k w) k a i)) in
        omega (arith, ints)

second_high : (m k b : ℕ) (G : List ℕ → ℤ) (w : List ℕ) → IsSetting m k w → IsTop m w b → k < b → suc m < letter_at w k → SecondTerms m k G w b
second_high m k b G w s t h f =
    let l = t.letter in
    let inside = t.within in
    lift_some (monk_part m k G) w (suc k) b (omega arith)
    ∙ sum_below_none (suc k) (λ a. up (monk_part m k G) w a b) (λ a i. up_none (monk_part m k G) w a b (λ z. elim (cases_eq a k) [
      | inl e ↦ absurd (let r = rises_only w a b s.one_line (omega arith) inside z in let u = ap (letter_at w) e in omega arith)
      | inr n ↦
          let y = (exchanged_at a b w (omega arith) inside).2 k (λ e. omega arith) (λ e. omega arith) in
          part_none m k G (swap_at a b w) (omega arith)
    ]))
    ∙ sym (part_none (suc m) k (lifted_sum m k G) w f)

-- the terms of two covers for w with the letter m + 1 at b > k, and a place a < k: first the cover at a and b and then one at k, or in the other order
abbrev one_order : ℕ → ℕ → ℕ → (List ℕ → ℤ) → List ℕ → ℕ → ℕ → ℤ
one_order m k b G w a c = up (λ v. later_term m k G v c) w a b

abbrev other_order : ℕ → ℕ → ℕ → (List ℕ → ℤ) → List ℕ → ℕ → ℕ → ℤ
other_order m k b G w a c =
    cond (c == b) (two G w k b a k) (cond (nat_lt k c) (cond (nat_lt m (letter_at w c)) (pos 0) (two G w k c a b)) (pos 0))

other_top : (m k b : ℕ) (G : List ℕ → ℤ) (w : List ℕ) (a : ℕ) → other_order m k b G w a b ≡ two G w k b a k
other_top m k b G w a = ap (λ t. cond t (two G w k b a k) (cond (nat_lt k b) (cond (nat_lt m (letter_at w b)) (pos 0) (two G w k b a b)) (pos 0))) (eq-eqb b b refl)

other_else : (m k b : ℕ) (G : List ℕ → ℤ) (w : List ℕ) (a c : ℕ) → (c ≡ b → ⊥)
    → other_order m k b G w a c ≡ cond (nat_lt k c) (cond (nat_lt m (letter_at w c)) (pos 0) (two G w k c a b)) (pos 0)
other_else m k b G w a c n = ap (λ t. cond t (two G w k b a k) (cond (nat_lt k c) (cond (nat_lt m (letter_at w c)) (pos 0) (two G w k c a b)) (pos 0))) (ne_eqb c b n)

-- what the second part rests on: w with the letter m + 1 at b > k, and a letter at k that is at most m
record IsLow (m k b : ℕ) (w : List ℕ) : Type 0 where
  pub setting : IsSetting m k w
  pub top : IsTop m w b
  pub after_k : k < b
  pub low : letter_at w k ≤ m

orders_agree : (m k b a c : ℕ) (G : List ℕ → ℤ) (w : List ℕ) → IsLow m k b w → a < k → c < length w → (c ≡ b → ⊥)
    → one_order m k b G w a c ≡ other_order m k b G w a c
orders_agree m k b a c G w s h l n = elim (cases_lt k c) [
  | inl f ↦
      let inside = s.top.within in
      let kb = s.after_k in
      let place = s.setting.place in
      let e = (exchanged_at a b w (omega arith) inside).2 c (λ z. omega arith) n in
      up_ext (λ v. later_term m k G v c) (λ v. cond (nat_lt m (letter_at w c)) (pos 0) (up G v k c)) w a b (λ z.
      if_less k c _ _ f ∙ ap (λ x. cond (nat_lt m x) (pos 0) (up G (swap_at a b w) k c)) e)
      ∙ pull (nat_lt m (letter_at w c))
      ∙ ap (λ z. cond (nat_lt m (letter_at w c)) (pos 0) z)
      (two_disjoint G w a b k c s.setting.one_line (omega arith) inside f l (λ z. omega arith) (λ z. omega arith) (λ z. omega arith) (λ z. n (sym z)))
      ∙ sym (other_else m k b G w a c n ∙ if_less k c _ _ f)
  | inr f ↦
      up_none (λ v. later_term m k G v c) w a b (λ z. if_not_less k c _ _ f)
      ∙ sym (other_else m k b G w a c n ∙ if_not_less k c _ _ f)
]
  where
    pull : (t : Bool) → up (λ v. cond t (pos 0) (up G v k c)) w a b ≡ cond t (pos 0) (two G w a b k c)
    pull true = up_zero (is_cover w a b)
    pull false = refl

-- both orders give the same sum for each a
orders_sum : (m k b a : ℕ) (G : List ℕ → ℤ) (w : List ℕ) → IsLow m k b w → a < k
    → up (monk_part m k G) w a b
    ≡ sum_below (length w) (other_order m k b G w a) +ℤ neg_ℤ (sum_below k (λ c. two G w c k a b))
orders_sum m k b a G w s h =
    let d = sum_below_differ (length w) b (one_order m k b G w a) (other_order m k b G w a) inside (λ c i n. orders_agree m k b a c G w s h i n) in
    let e = sum_below_differ k a (λ c. two G w a b c k) (λ c. two G w c k a b) h (λ c i n.
    two_disjoint G w a b c k s.setting.one_line (omega arith) inside i (omega arith) (λ z. n (sym z)) (λ z. omega arith) (λ z. omega arith) (λ z. omega arith)) in
    let u = other_top m k b G w a in
    let x = first in
    let y = none in
    let t = three in
    let p = parts in
    omega (arith, ints)
  where
    kb : k < b
    kb = s.after_k

    inside : b < length w
    inside = s.top.within

    parts : up (monk_part m k G) w a b ≡ sum_below (length w) (one_order m k b G w a) +ℤ neg_ℤ (sum_below k (λ c. two G w a b c k))
    parts =
        up_ext (monk_part m k G) (λ v. sum_below (length w) (later_term m k G v) +ℤ neg_ℤ (sum_below k (λ c. up G v c k))) w a b (λ z.
        let y = (exchanged_at a b w (omega arith) inside).2 k (λ e. omega arith) (λ e. omega arith) in
        let low = s.low in
        part_some m k G (swap_at a b w) (omega arith)
        ∙ ap (λ n. sum_below n (later_term m k G (swap_at a b w)) +ℤ neg_ℤ (sum_below k (λ c. up G (swap_at a b w) c k))) (length-swap_at a b w))
        ∙ up_add (λ v. sum_below (length w) (later_term m k G v)) (λ v. neg_ℤ (sum_below k (λ c. up G v c k))) w a b
        ∙ ap₂ ◌+ℤ◌
        (up_sum (length w) (λ c v. later_term m k G v c) w a b)
        (up_neg (λ v. sum_below k (λ c. up G v c k)) w a b ∙ ap neg_ℤ (up_sum k (λ c v. up G v c k) w a b))

    first : one_order m k b G w a b ≡ two G w a b k b
    first = up_ext (λ v. later_term m k G v b) (λ v. up G v k b) w a b (λ z.
        let g = (exchanged_at a b w (omega arith) inside).1 in
        let r = rises_only w a b s.setting.one_line (omega arith) inside z in
        let l = s.top.letter in
        if_less k b _ _ kb ∙ if_not_less m (letter_at (swap_at a b w) b) _ _ (omega arith))

    none : two G w a b a k ≡ pos 0
    none = up_none (λ v. up G v a k) w a b (λ z. up_none G (swap_at a b w) a k (λ q. absurd (
        let g = (exchanged_at a b w (omega arith) inside).0 in
        let j = (exchanged_at a b w (omega arith) inside).2 k (λ e. omega arith) (λ e. omega arith) in
        let l = s.top.letter in
        let low = s.low in
        let r = rises_only (swap_at a b w) a k (one_line_swap a b w (omega arith) inside s.setting.one_line) h (omega (arith, length-swap_at a b w)) q in
        omega arith)))

    three : two G w a b k b +ℤ two G w a k a b ≡ two G w k b a k
    three = elim (cases_lt (letter_at w a) (letter_at w b)) [
      | inl f ↦ let l = s.top.letter in let low = s.low in three_places G w a k b s.setting.one_line h kb inside f (omega arith)
      | inr f ↦
          let l = s.top.letter in
          let low = s.low in
          let x = up_none (λ v. up G v k b) w a b (λ z. absurd (let r = rises_only w a b s.setting.one_line (omega arith) inside z in omega arith)) in
          let y = up_none (λ v. up G v a b) w a k (λ z. absurd (let r = rises_only w a k s.setting.one_line h s.setting.place z in omega arith)) in
          let t = up_none (λ v. up G v a k) w k b (λ z. up_none G (swap_at k b w) a k (λ q. absurd (
          let g = (exchanged_at k b w s.setting.place inside).0 in
          let j = (exchanged_at k b w s.setting.place inside).2 a (λ e. omega arith) (λ e. omega arith) in
          let place = s.setting.place in
          let r = rises_only (swap_at k b w) a k (one_line_swap k b w place inside s.setting.one_line) h (omega (arith, length-swap_at k b w)) q in
          omega arith))) in
          omega (arith, ints)
    ]

second_low : (m k b : ℕ) (G : List ℕ → ℤ) (w : List ℕ) → IsLow m k b w → SecondTerms m k G w b
second_low m k b G w s =
    let p = lift_some (monk_part m k G) w (suc k) b (omega arith) in
    let q = sum_below_last k (λ a. up (monk_part m k G) w a b) in
    let n = last in
    let r = sum_below_ext k (λ a. up (monk_part m k G) w a b)
    (λ a. sum_below (length w) (other_order m k b G w a) +ℤ neg_ℤ (sum_below k (λ c. two G w c k a b))) (λ a h. orders_sum m k b a G w s h) in
    let t = sum_below_add k (λ a. sum_below (length w) (other_order m k b G w a)) (λ a. neg_ℤ (sum_below k (λ c. two G w c k a b))) in
    let u = sum_below_neg k (λ a. sum_below k (λ c. two G w c k a b)) in
    let x = sum_below_exchange (length w) k (other_order m k b G w) in
    let y = sum_below_exchange k k (λ a c. two G w c k a b) in
    let low = s.low in
    let z = part_some (suc m) k (lifted_sum m k G) w (omega arith) in
    let f = sum_below_ext (length w) (later_term (suc m) k (lifted_sum m k G) w) (λ c. sum_below k (λ a. other_order m k b G w a c)) laters in
    let g = sum_below_ext k (λ c. up (lifted_sum m k G) w c k) (λ c. sum_below k (λ a. two G w c k a b)) earlier in
    omega (arith, ints)
  where
    kb : k < b
    kb = s.after_k

    inside : b < length w
    inside = s.top.within

    last : up (monk_part m k G) w k b ≡ pos 0
    last = up_none (monk_part m k G) w k b (λ z.
        let g = (exchanged_at k b w s.setting.place inside).0 in
        let l = s.top.letter in
        part_none m k G (swap_at k b w) (omega arith))

    earlier : (c : ℕ) → c < k → up (lifted_sum m k G) w c k ≡ sum_below k (λ a. two G w c k a b)
    earlier c h =
        up_ext (lifted_sum m k G) (λ v. sum_below k (λ a. up G v a b)) w c k (λ z.
        lifted_at m k b G (swap_at c k w) (top_stays m k b c k w s.setting s.top (let p = s.setting.place in omega arith) s.setting.place (λ e. omega arith) (λ e. omega arith))
        ∙ lift_some G (swap_at c k w) k b (omega arith))
        ∙ up_sum k (λ a v. up G v a b) w c k

    laters : (c : ℕ) → c < length w → later_term (suc m) k (lifted_sum m k G) w c ≡ sum_below k (λ a. other_order m k b G w a c)
    laters c i = elim (cases_eq c b) [ inl e ↦ subst (λ j. later_term (suc m) k (lifted_sum m k G) w j ≡ sum_below k (λ a. other_order m k b G w a j)) (sym e) at_top | inr n ↦ elsewhere n ]
      where
        at_top : later_term (suc m) k (lifted_sum m k G) w b ≡ sum_below k (λ a. other_order m k b G w a b)
        at_top =
            let l = s.top.letter in
            if_less k b _ _ s.after_k ∙ if_not_less (suc m) (letter_at w b) _ _ (omega arith)
            ∙ up_ext (lifted_sum m k G) (λ v. sum_below k (λ a. up G v a k)) w k b (λ z.
            lifted_at m k k G (swap_at k b w) (top_goes_left m k k b w s.setting s.top s.setting.place) ∙ lift_some G (swap_at k b w) k k (omega arith))
            ∙ up_sum k (λ a v. up G v a k) w k b
            ∙ sym (sum_below_ext k (λ a. other_order m k b G w a b) (λ a. two G w k b a k) (λ a h. other_top m k b G w a))

        elsewhere : (c ≡ b → ⊥) → later_term (suc m) k (lifted_sum m k G) w c ≡ sum_below k (λ a. other_order m k b G w a c)
        elsewhere n = elim (cases_lt k c) [
          | inl h ↦
              later_same m k b c (lifted_sum m k G) w s.setting s.top (inl n)
              ∙ if_less k c _ _ h
              ∙ ap (λ z. cond (nat_lt m (letter_at w c)) (pos 0) z)
              (up_ext (lifted_sum m k G) (λ v. sum_below k (λ a. up G v a b)) w k c (λ z.
              let x = s.after_k in
              lifted_at m k b G (swap_at k c w) (top_stays m k b k c w s.setting s.top s.setting.place i (λ e. omega arith) (λ e. n (sym e)))
              ∙ lift_some G (swap_at k c w) k b (omega arith))
              ∙ up_sum k (λ a v. up G v a b) w k c)
              ∙ pull (nat_lt m (letter_at w c)) (λ a. two G w k c a b)
              ∙ sym (sum_below_ext k (λ a. other_order m k b G w a c) (λ a. cond (nat_lt m (letter_at w c)) (pos 0) (two G w k c a b)) (λ a j. other_else m k b G w a c n ∙ if_less k c _ _ h))
          | inr h ↦
              if_not_less k c _ _ h
              ∙ sym (sum_below_none k (λ a. other_order m k b G w a c) (λ a j. other_else m k b G w a c n ∙ if_not_less k c _ _ h))
        ]
          where
            pull : (t : Bool) (f : ℕ → ℤ) → cond t (pos 0) (sum_below k f) ≡ sum_below k (λ a. cond t (pos 0) (f a))
            pull true f = sym (sum_below_none k (λ a. pos 0) (λ a j. refl))
            pull false f = refl

second_terms : (m k b : ℕ) (G : List ℕ → ℤ) (w : List ℕ) → IsSetting m k w → IsTop m w b → Which m k b (letter_at w k) → SecondTerms m k G w b
second_terms m k b G w s t (inl h) = second_before m k b G w s t h
second_terms m k b G w s t (inr (inl e)) = subst (SecondTerms m k G w) (sym e) (second_here m k G w s (subst (IsTop m w) e t))
second_terms m k b G w s t (inr (inr (inl h))) = second_high m k b G w s t h.0 h.1
second_terms m k b G w s t (inr (inr (inr h))) = second_low m k b G w (record { setting = s; top = t; after_k = h.0; low = h.1 })

-- ---- the step from k to k + 1, for all chains in which the greater letters are at most m

pub no_covers_left : (m k : ℕ) (φ : List ℕ → ℤ) (w : List ℕ) → chain_sum m zero k φ w ≡ φ w
no_covers_left zero k φ w = refl
no_covers_left (suc m) k φ w = no_covers_left m k φ w

abbrev StepAt : ℕ → ℕ → ℕ → (List ℕ → ℤ) → List ℕ → Type 0
StepAt m d k φ w = chain_sum m (suc d) (suc k) φ w ≡ chain_sum m (suc d) k φ w +ℤ monk_part m k (λ v. chain_sum m d k φ v) w

pub one_place_more : (m d k : ℕ) (φ : List ℕ → ℤ) (w : List ℕ) → IsOneLine w → k < length w → m ≤ length w → StepAt m d k φ w
one_place_more zero d k φ w o h l =
    let p = o.letters (letter_at w k) (among_get k (suc k) w h) in
    let q = p.0 in
    let e = part_none zero k (λ v. chain_sum zero d k φ v) w (omega arith) in
    omega (arith, ints)
one_place_more (suc m) zero k φ w o h l =
    let s : IsSetting m k w = record { one_line = o; place = h; letters = l } in
    let b : ℕ = letters_before (suc m) w in
    let t = the_top m k w s in
    let r = one_place_more m zero k φ w o h (omega arith) in
    let f = first_terms m k (letters_before (suc m) w) (λ v. chain_sum m zero k φ v) w s t (which m k (letters_before (suc m) w) w s t) in
    let e = lift_ext (λ v. chain_sum m zero (suc k) φ v) (λ v. chain_sum m zero k φ v) w (suc k) (letters_before (suc m) w) (λ a i j.
    no_covers_left m (suc k) φ (swap_at a (letters_before (suc m) w) w) ∙ sym (no_covers_left m k φ (swap_at a (letters_before (suc m) w) w))) in
    omega (arith, ints)
one_place_more (suc m) (suc d) k φ w o h l =
    let s : IsSetting m k w = record { one_line = o; place = h; letters = l } in
    let b : ℕ = letters_before (suc m) w in
    let t = the_top m k w s in
    let c = which m k (letters_before (suc m) w) w s t in
    let r = one_place_more m (suc d) k φ w o h (omega arith) in
    let f = first_terms m k (letters_before (suc m) w) (λ v. chain_sum m (suc d) k φ v) w s t c in
    let g = second_terms m k (letters_before (suc m) w) (λ v. chain_sum m d k φ v) w s t c in
    let within = t.within in
    let e = lift_ext (λ v. chain_sum m (suc d) (suc k) φ v) (λ v. chain_sum m (suc d) k φ v +ℤ monk_part m k (λ u. chain_sum m d k φ u) v) w (suc k) (letters_before (suc m) w) (λ a i j.
    let z = swapped_setting m k a (letters_before (suc m) w) w s (omega arith) within in
    let zl = z.letters in
    one_place_more m d k φ (swap_at a (letters_before (suc m) w) w) z.one_line z.place (omega arith)) in
    let x = lift_add (λ v. chain_sum m (suc d) k φ v) (monk_part m k (λ u. chain_sum m d k φ u)) w (suc k) (letters_before (suc m) w) in
    let y = part_add (suc m) k (λ v. chain_sum m (suc d) k φ v) (lifted_sum m k (λ u. chain_sum m d k φ u)) w in
    omega (arith, ints)
