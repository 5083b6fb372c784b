-- Covers of a permutation w, in terms of its letters: swapping the letters at places a < b of w gives a cover if and only if the letter at a is smaller
-- than that at b, and no letter at a place between them has a value between theirs. From this the relations of CoverRelations for two swaps.
--     letter_at w        the function that gives the letter of w at each place, counted from 0; after the end of w the letters are fixed
--     covers_if, covers_only_if     the criterion
--     two_disjoint       two covers at four different places may be made in either order
--     three_places       (ab)(kb) + (ak)(ab) = (kb)(ak) for places a < k < b, if the letters at a and k are smaller than that at b; (ab)(cd) is
--                        first the cover at a and b, and then the cover at c and d
use Rattle.std.proofs.Common.{◌≡◌, ℕ, zero, suc, ◌+◌, ◌<◌, ◌≤◌, List, [], ◌∷◌, length, get_or, set, refl, sym, ◌∙◌, ap, ap₂, arith, inl, inr, ◌⊎◌, cond, ◌==◌, Bool, true, false, ℤ, pos, ◌+ℤ◌, eq-eqb, eqb-true}
use Rattle.std.proofs.lemmas.Int.{ints}
use Rattle.std.proofs.lemmas.List.{get_or_default, get_or_past, ext_get_or}
use Rattle.std.proofs.lemmas.Bool.{cases_eq, cases_lt, ne_eqb, cond_below}
use Rattle.std.proofs.lemmas.Bool.Decides.{nat_tests}
use Rattle.sym_model.specs.BetaList.{greater, rising_pairs}
use Rattle.sym_model.specs.Permutation.{IsOneLine}
use Rattle.sym_model.proofs.Numbers.{counts-not_less}
use Rattle.schubert_laws.proofs.CoverRelations.{Covers, Exchanged, Different, disjoint, three_low, three_low_back, three_high, three_high_back}
use Rattle.schubert_laws.proofs.MonkFromOne.{one_line_swap}
use Rattle.schubert_laws.proofs.MonkStep.{is_cover}
use Rattle.schubert_laws.proofs.Swaps.{swap_at, length-swap_at, greater_set, greater_swap, raises, swap_twice, get_swap_left, get_swap_right, among_get}
use Rattle.schubert_laws.proofs.Transition.{between, get_swap_other, once_get, strict_get}

abbrev pub letter_at : List ℕ → ℕ → ℕ
letter_at w c = get_or w c (suc c)

pub letter_is : (w : List ℕ) (c d : ℕ) → c < length w → letter_at w c ≡ get_or w c d
letter_is w c d h = get_or_default w c (suc c) d h

pub letter_most : (w : List ℕ) (c : ℕ) → IsOneLine w → c < length w → letter_at w c ≤ length w
letter_most w c o h = (o.letters (letter_at w c) (among_get c (suc c) w h)).1

pub different : (w : List ℕ) → IsOneLine w → Different (letter_at w)
different w o a b e = by (cases_lt a (length w)) (cases_lt b (length w))
  where
    by : (a < length w) ⊎ (length w ≤ a) → (b < length w) ⊎ (length w ≤ b) → a ≡ b
    by (inl h) (inl l) = once_get w a b o.once h l (sym (letter_is w a 0 h) ∙ e ∙ letter_is w b 0 l)
    by (inl h) (inr l) = absurd (let m = letter_most w a o h in let p = get_or_past w b (suc b) l in omega arith)
    by (inr h) (inl l) = absurd (let m = letter_most w b o l in let p = get_or_past w a (suc a) h in omega arith)
    by (inr h) (inr l) = let p = get_or_past w a (suc a) h in let q = get_or_past w b (suc b) l in omega arith

pub exchanged_at : (a b : ℕ) (w : List ℕ) → a < length w → b < length w → Exchanged (letter_at w) a b (letter_at (swap_at a b w))
exchanged_at a b w h l = (
  get_swap_left a b (suc a) w h l ∙ get_or_default w b (suc a) (suc b) l,
  get_swap_right a b (suc b) w h l ∙ get_or_default w a (suc b) (suc a) h,
  λ c n m. get_swap_other a b c (suc c) w n m,
)

-- ---- the criterion

one_more_first : (x b : ℕ) (w : List ℕ) → b < length w → get_or w b x < x → ((c : ℕ) → c < b → (get_or w c x < get_or w b x) ⊎ (x < get_or w c x))
    → greater (get_or w b x) (set w b x) + rising_pairs (set w b x) ≡ suc (greater x w + rising_pairs w)
one_more_first x b [] h l s = absurd (omega arith)
one_more_first x zero (y ∷ w) h l s =
    let p = counts-not_less x y (omega arith) in
    let q = sym (cond_below {X = ℕ} y x 1 0 l) in
    omega arith
one_more_first x (suc b) (z ∷ w) h l s =
    let r = one_more_first x b w (omega arith) l (λ c k. s (suc c) (omega arith)) in
    let g = greater_set z b x w in
    elim (s 0 (omega arith)) [
      | inl f ↦
          let p = counts-not_less x z (omega arith) in
          let q = counts-not_less (get_or w b x) z (omega arith) in
          let i = sym (cond_below {X = ℕ} z (get_or w b x) 1 0 f) in
          let j = sym (cond_below {X = ℕ} z x 1 0 (omega arith)) in
          omega arith
      | inr f ↦
          let p = sym (cond_below {X = ℕ} x z 1 0 f) in
          let q = sym (cond_below {X = ℕ} (get_or w b x) z 1 0 (omega arith)) in
          let i = counts-not_less z (get_or w b x) (omega arith) in
          let j = counts-not_less z x (omega arith) in
          omega arith
    ]

one_more : (a b d : ℕ) (w : List ℕ) → a < b → b < length w → get_or w b d < get_or w a d
    → ((c : ℕ) → a < c → c < b → (get_or w c d < get_or w b d) ⊎ (get_or w a d < get_or w c d))
    → rising_pairs (swap_at a b w) ≡ suc (rising_pairs w)
one_more a zero d w h l m s = absurd (omega arith)
one_more a (suc b) d [] h l m s = absurd (omega arith)
one_more zero (suc b) d (x ∷ w) h l m s =
    let e = get_or_default w b x d (omega arith) in
    ap (λ y. greater y (set w b x) + rising_pairs (set w b x)) refl
    ∙ one_more_first x b w (omega arith) (omega arith) (λ c k.
    let f = get_or_default w c x d (omega arith) in
    elim (s (suc c) (omega arith) (omega arith)) [ inl r ↦ inl (omega arith) | inr r ↦ inr (omega arith) ])
one_more (suc a) (suc b) d (x ∷ w) h l m s =
    let r = one_more a b d w (omega arith) (omega arith) m (λ c j k. s (suc c) (omega arith) (omega arith)) in
    let g = greater_swap x a b w in
    omega arith

pub covers_if : (a b : ℕ) (w : List ℕ) → IsOneLine w → a < b → b < length w → Covers (letter_at w) a b → is_cover w a b ≡ true
covers_if a b w o h l v =
    eq-eqb (rising_pairs w) (suc (rising_pairs (swap_at a b w)))
    (ap rising_pairs (sym (swap_twice a b w (omega arith) l)) ∙ one_more a b 0 (swap_at a b w) h (let e = long in omega arith) falls apart)
  where
    long : length (swap_at a b w) ≡ length w
    long = length-swap_at a b w

    order : get_or w a 0 < get_or w b 0
    order = let p = letter_is w a 0 (omega arith) in let q = letter_is w b 0 l in let r = v.0 in omega arith

    falls : get_or (swap_at a b w) b 0 < get_or (swap_at a b w) a 0
    falls = let p = get_swap_left a b 0 w (omega arith) l in let q = get_swap_right a b 0 w (omega arith) l in let r = order in omega arith

    apart : (c : ℕ) → a < c → c < b → (get_or (swap_at a b w) c 0 < get_or (swap_at a b w) b 0) ⊎ (get_or (swap_at a b w) a 0 < get_or (swap_at a b w) c 0)
    apart c i j =
        let p = get_swap_left a b 0 w (omega arith) l in
        let q = get_swap_right a b 0 w (omega arith) l in
        let r = get_swap_other a b c 0 w (λ e. omega arith) (λ e. omega arith) in
        let x = letter_is w a 0 (omega arith) in
        let y = letter_is w b 0 l in
        let z = letter_is w c 0 (omega arith) in
        let m : (get_or w c 0 ≡ get_or w a 0) → ⊥ = λ e. let t = once_get w c a o.once (omega arith) (omega arith) e in omega arith in
        let n : (get_or w c 0 ≡ get_or w b 0) → ⊥ = λ e. let t = once_get w c b o.once (omega arith) l e in omega arith in
        elim (v.1 c i j) [ inl s ↦ inl (omega (arith, m)) | inr s ↦ inr (omega (arith, n)) ]

pub covers_only_if : (a b : ℕ) (w : List ℕ) → IsOneLine w → a < b → b < length w → is_cover w a b ≡ true → Covers (letter_at w) a b
covers_only_if a b w o h l t = (order, apart)
  where
    e : rising_pairs w ≡ suc (rising_pairs (swap_at a b w))
    e = eqb-true (rising_pairs w) (suc (rising_pairs (swap_at a b w))) t

    order : letter_at w a < letter_at w b
    order =
        let p = letter_is w a 0 (omega arith) in
        let q = letter_is w b 0 l in
        let x = e in
        elim (cases_lt (get_or w b 0) (get_or w a 0)) [
          | inl f ↦ absurd (let r = raises a b 0 w h l f in omega arith)
          | inr f ↦ let s = strict_get w a b o.once (omega arith) l (λ z. omega arith) f in omega arith
        ]

    apart : (c : ℕ) → a < c → c < b → (letter_at w c ≤ letter_at w a) ⊎ (letter_at w b ≤ letter_at w c)
    apart c i j =
        let p = letter_is w a 0 (omega arith) in
        let q = letter_is w b 0 l in
        let r = letter_is w c 0 (omega arith) in
        elim (cases_lt (letter_at w a) (letter_at w c)) [
          | inl f ↦ elim (cases_lt (letter_at w c) (letter_at w b)) [
            | inl g ↦ absurd (between a c b 0 w i j l (omega arith) (omega arith) e)
            | inr g ↦ inr g
          ]
          | inr f ↦ inl f
        ]

-- ---- two swaps

-- the place whose letter comes to the place i if the letters at a and b are swapped
abbrev pub source : ℕ → ℕ → ℕ → ℕ
source a b i = cond (i == a) b (cond (i == b) a i)

get_source : (a b i : ℕ) (w : List ℕ) → a < length w → b < length w → get_or (swap_at a b w) i 0 ≡ get_or w (source a b i) 0
get_source a b i w h l = by (cases_eq i a) (cases_eq i b)
  where
    by : (i ≡ a) ⊎ (i ≡ a → ⊥) → (i ≡ b) ⊎ (i ≡ b → ⊥) → get_or (swap_at a b w) i 0 ≡ get_or w (source a b i) 0
    by (inl e) q =
        ap (λ j. get_or (swap_at a b w) j 0) e ∙ get_swap_left a b 0 w h l
        ∙ ap (λ t. get_or w (cond t b (cond (i == b) a i)) 0) (sym (eq-eqb i a e))
    by (inr n) (inl e) =
        ap (λ j. get_or (swap_at a b w) j 0) e ∙ get_swap_right a b 0 w h l
        ∙ ap₂ (λ s t. get_or w (cond s b (cond t a i)) 0) (sym (ne_eqb i a n)) (sym (eq-eqb i b e))
    by (inr n) (inr m) =
        get_swap_other a b i 0 w n m
        ∙ ap₂ (λ s t. get_or w (cond s b (cond t a i)) 0) (sym (ne_eqb i a n)) (sym (ne_eqb i b m))

two_swaps : (a b c d e f g h : ℕ) (w : List ℕ) → a < length w → b < length w → c < length w → d < length w → e < length w → f < length w → g < length w → h < length w
    → ((i : ℕ) → source a b (source c d i) ≡ source e f (source g h i)) → swap_at c d (swap_at a b w) ≡ swap_at g h (swap_at e f w)
two_swaps a b c d e f g h w p q r s t u x y same =
    let l = length-swap_at a b w in
    let m = length-swap_at e f w in
    ext_get_or 0 (swap_at c d (swap_at a b w)) (swap_at g h (swap_at e f w))
    (length-swap_at c d (swap_at a b w) ∙ l ∙ sym (length-swap_at g h (swap_at e f w) ∙ m))
    (λ i z.
    get_source c d i (swap_at a b w) (omega arith) (omega arith) ∙ get_source a b (source c d i) w p q
    ∙ ap (λ j. get_or w j 0) (same i)
    ∙ sym (get_source g h i (swap_at e f w) (omega arith) (omega arith) ∙ get_source e f (source g h i) w t u))

disjoint_swaps : (a b c d i : ℕ) → (a ≡ c → ⊥) → (a ≡ d → ⊥) → (b ≡ c → ⊥) → (b ≡ d → ⊥) → source a b (source c d i) ≡ source c d (source a b i)
disjoint_swaps a b c d i ac ad bc bd = grind (arith, nat_tests)

low_swaps : (a k b i : ℕ) → a < k → k < b → source a k (source a b i) ≡ source k b (source a k i)
low_swaps a k b i h l = grind (arith, nat_tests)

high_swaps : (a k b i : ℕ) → a < k → k < b → source k b (source a k i) ≡ source a b (source k b i)
high_swaps a k b i h l = grind (arith, nat_tests)

-- ---- the sum of G over one cover, or over two covers in turn; 0 if there is none

abbrev pub up : (List ℕ → ℤ) → List ℕ → ℕ → ℕ → ℤ
up G w a b = cond (is_cover w a b) (G (swap_at a b w)) (pos 0)

abbrev pub two : (List ℕ → ℤ) → List ℕ → ℕ → ℕ → ℕ → ℕ → ℤ
two G w a b c d = up (λ v. up G v c d) w a b

both_true : (s t : Bool) (z : ℤ) → s ≡ true → t ≡ true → cond s (cond t z (pos 0)) (pos 0) ≡ z
both_true s t z p q = ap₂ (λ x y. cond x (cond y z (pos 0)) (pos 0)) p q

both_none : (s t : Bool) (z : ℤ) → (s ≡ true → t ≡ true → ⊥) → cond s (cond t z (pos 0)) (pos 0) ≡ pos 0
both_none true true z n = absurd (n refl refl)
both_none true false z n = refl
both_none false t z n = refl

same_both : (s t p q : Bool) (y z : ℤ) → y ≡ z → (s ≡ true → t ≡ true → (p ≡ true) × (q ≡ true)) → (p ≡ true → q ≡ true → (s ≡ true) × (t ≡ true))
    → cond s (cond t y (pos 0)) (pos 0) ≡ cond p (cond q z (pos 0)) (pos 0)
same_both true true p q y z e f g = let r = f refl refl in e ∙ sym (both_true p q z r.0 r.1)
same_both true false p q y z e f g = sym (both_none p q z (λ a b. let r = (g a b).1 in cc))
same_both false t p q y z e f g = sym (both_none p q z (λ a b. let r = (g a b).0 in cc))

swap_after : (a b c d : ℕ) (w : List ℕ) → IsOneLine w → a < length w → b < length w → c < d → d < length w
    → is_cover (swap_at a b w) c d ≡ true → Covers (letter_at (swap_at a b w)) c d
swap_after a b c d w o h l k m t = covers_only_if c d (swap_at a b w) (one_line_swap a b w h l o) k (omega (arith, length-swap_at a b w)) t

after_swap : (a b c d : ℕ) (w : List ℕ) → IsOneLine w → a < length w → b < length w → c < d → d < length w
    → Covers (letter_at (swap_at a b w)) c d → is_cover (swap_at a b w) c d ≡ true
after_swap a b c d w o h l k m t = covers_if c d (swap_at a b w) (one_line_swap a b w h l o) k (omega (arith, length-swap_at a b w)) t

pub two_disjoint : (G : List ℕ → ℤ) (w : List ℕ) (a b c d : ℕ) → IsOneLine w → a < b → b < length w → c < d → d < length w
    → (a ≡ c → ⊥) → (a ≡ d → ⊥) → (b ≡ c → ⊥) → (b ≡ d → ⊥) → two G w a b c d ≡ two G w c d a b
two_disjoint G w a b c d o h l k m ac ad bc bd =
    let al : a < length w = omega arith in
    let cl : c < length w = omega arith in
    same_both (is_cover w a b) (is_cover (swap_at a b w) c d) (is_cover w c d) (is_cover (swap_at c d w) a b)
    (G (swap_at c d (swap_at a b w))) (G (swap_at a b (swap_at c d w)))
    (ap G (two_swaps a b c d c d a b w al l cl m cl m al l (λ i. disjoint_swaps a b c d i ac ad bc bd)))
    (λ s t.
    let r = disjoint (letter_at w) (letter_at (swap_at a b w)) (letter_at (swap_at c d w)) a b c d (different w o) h k ac ad bc bd
    (exchanged_at a b w al l) (exchanged_at c d w cl m) (covers_only_if a b w o h l s) (swap_after a b c d w o al l k m t) in
    (covers_if c d w o k m r.0, after_swap c d a b w o cl m h l r.1))
    (λ s t.
    let r = disjoint (letter_at w) (letter_at (swap_at c d w)) (letter_at (swap_at a b w)) c d a b (different w o) k h
    (λ e. ac (sym e)) (λ e. bc (sym e)) (λ e. ad (sym e)) (λ e. bd (sym e))
    (exchanged_at c d w cl m) (exchanged_at a b w al l) (covers_only_if c d w o k m s) (swap_after c d a b w o cl m h l t) in
    (covers_if a b w o h l r.0, after_swap a b c d w o al l k m r.1))

pub three_places : (G : List ℕ → ℤ) (w : List ℕ) (a k b : ℕ) → IsOneLine w → a < k → k < b → b < length w
    → letter_at w a < letter_at w b → letter_at w k < letter_at w b → two G w a b k b +ℤ two G w a k a b ≡ two G w k b a k
three_places G w a k b o h l m x y = elim (cases_lt (letter_at w a) (letter_at w k)) [
  | inl f ↦
      let z = none_low f in
      let s = low f in
      omega (arith, ints)
  | inr f ↦
      let n : (letter_at w a ≡ letter_at w k) → ⊥ = λ e. let q = different w o a k e in omega arith in
      let z = none_high f in
      let s = high (omega (arith, n)) in
      omega (arith, ints)
]
  where
    al : a < length w
    al = omega arith

    kl : k < length w
    kl = omega arith

    ab : a < b
    ab = omega arith

    none_low : letter_at w a < letter_at w k → two G w a b k b ≡ pos 0
    none_low f = both_none (is_cover w a b) (is_cover (swap_at a b w) k b) (G (swap_at k b (swap_at a b w))) (λ s t.
        let r = (swap_after a b k b w o (omega arith) m l m t).0 in
        let e = exchanged_at a b w (omega arith) m in
        let p = e.1 in
        let q = e.2 k (λ z. omega arith) (λ z. omega arith) in
        omega arith)

    none_high : letter_at w k ≤ letter_at w a → two G w a k a b ≡ pos 0
    none_high f = both_none (is_cover w a k) (is_cover (swap_at a k w) a b) (G (swap_at a b (swap_at a k w))) (λ s t.
        let r = (covers_only_if a k w o h (omega arith) s).0 in
        omega arith)

    low : letter_at w a < letter_at w k → two G w a k a b ≡ two G w k b a k
    low f =
        same_both (is_cover w a k) (is_cover (swap_at a k w) a b) (is_cover w k b) (is_cover (swap_at k b w) a k)
        (G (swap_at a b (swap_at a k w))) (G (swap_at a k (swap_at k b w)))
        (ap G (two_swaps a k a b k b a k w al kl al m kl m al kl (λ i. low_swaps a k b i h l)))
        (λ s t.
        let r = three_low (letter_at w) (letter_at (swap_at a k w)) (letter_at (swap_at k b w)) a k b (different w o) h l
        (exchanged_at a k w al kl) (exchanged_at k b w kl m) (covers_only_if a k w o h kl s) (swap_after a k a b w o al kl ab m t) in
        (covers_if k b w o l m r.0, after_swap k b a k w o kl m h kl r.1))
        (λ s t.
        let r = three_low_back (letter_at w) (letter_at (swap_at a k w)) (letter_at (swap_at k b w)) a k b (different w o) h l f
        (exchanged_at a k w al kl) (exchanged_at k b w kl m) (covers_only_if k b w o l m s) (swap_after k b a k w o kl m h kl t) in
        (covers_if a k w o h kl r.0, after_swap a k a b w o al kl ab m r.1))

    high : letter_at w k < letter_at w a → two G w a b k b ≡ two G w k b a k
    high f =
        same_both (is_cover w a b) (is_cover (swap_at a b w) k b) (is_cover w k b) (is_cover (swap_at k b w) a k)
        (G (swap_at k b (swap_at a b w))) (G (swap_at a k (swap_at k b w)))
        (ap G (sym (two_swaps k b a k a b k b w kl m al kl al m kl m (λ i. high_swaps a k b i h l))))
        (λ s t.
        let r = three_high_back (letter_at w) (letter_at (swap_at k b w)) (letter_at (swap_at a b w)) a k b (different w o) h l f
        (exchanged_at k b w kl m) (exchanged_at a b w al m) (covers_only_if a b w o ab m s) (swap_after a b k b w o al m l m t) in
        (covers_if k b w o l m r.0, after_swap k b a k w o kl m h kl r.1))
        (λ s t.
        let r = three_high (letter_at w) (letter_at (swap_at k b w)) (letter_at (swap_at a b w)) a k b (different w o) h l f
        (exchanged_at k b w kl m) (exchanged_at a b w al m) (covers_only_if k b w o l m s) (swap_after k b a k w o kl m h kl t) in
        (covers_if a b w o ab m r.0, after_swap a b k b w o al m l m r.1))
