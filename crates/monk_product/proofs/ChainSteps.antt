-- Steps of the loops that add the last permutations of chains to a list.
--     adds_place, skips_place    one more place of the greater letter of the first cover
--     adds_cover, skips_cover    one more cover at a place
--     rises, stays           whether an exchange gives a cover, by the greatest smaller letter between the two places
--     at_end_raised, at_end_kept     one more letter at the end of a list of which the greatest letter less than a given one is known
use Rattle.std.proofs.Common.{◌≡◌, ◌⊎◌, ℕ, suc, ◌+◌, ◌-◌, ◌<◌, ◌≤◌, ◌==◌, ◌&&◌, ◌||◌, Bool, true, false, not, cond, nat_lt, List, [], ◌∷◌, ◌++◌, length, take, drop, map, flat_map, get_or, refl, sym, ap, ap₂, ◌∙◌, subst, inl, inr, arith, ℤ, ◌*ℤ◌, nat_le, append-nil}
use Rattle.std.specs.List.{swap}
use Rattle.std.proofs.lemmas.Bool.{cases_lt, lt-ltb, le-ltb, le-leb, lt-leb}
use Rattle.std.proofs.lemmas.Int.{ints}
use Rattle.std.proofs.lemmas.List.{drop_more, take_all, length-drop, get_or_default}
use Rattle.std.proofs.lemmas.List.Folds.{list_any_more}
use Rattle.std.proofs.Math.Bool.{or_comm}
use Rattle.sym_model.specs.Sum.{Among, total}
use Rattle.sym_model.specs.Partition.{after}
use Rattle.sym_model.specs.PlaceOrders.{inversions, places}
use Rattle.sym_model.specs.Permutation.{with_fixed, kept, times_swap, covers_down}
use Rattle.sym_model.proofs.AfterLists.{among_after}
use Rattle.sym_model.proofs.Sums.{Among-map, Among-select}
use Rattle.schubert_laws.specs.ShortPermutations.{IsShort}
use Rattle.schubert_laws.proofs.FixedTails.{kept_added}
use Rattle.schubert_laws.proofs.IndependentSchuberts.{length-with_fixed}
use Rattle.double_schubert_laws.proofs.KeptChains.{fixed_one_line, before_short}
use Rattle.double_schubert_laws.specs.KeptChains.{kept_chains, less_among}
use Rattle.schubert_laws.proofs.ChainSums.{place_is}
use Rattle.schubert_laws.proofs.Swaps.{among_get}
use Rattle.linear_combinations.specs.Gains.{WholeTermsOf, Gains, each_with, over}
use Rattle.linear_combinations.proofs.Gains.{each_append, gains_none, gains_both, gains_as, over_append, each_over}
use Rattle.perm_codes.proofs.OneSwap.{rising_test, falling_test}
use Rattle.monk_product.specs.ShortPerms.{IsFilled, IsGreatestBelow}
use Rattle.monk_product.proofs.ChainLists.{ends, ends_to, ends_at, next_ends, walk_next, walk_all, cut, by_places, letter_short, less_short}
use Rattle.monk_product.proofs.ShortPerms.{exchange_test}

-- ---- sums

module _ (c : ℤ) (F : ℕ → List (List ℕ)) (k p : ℕ) (old cur : WholeTermsOf (List ℕ)) where
  module _ (u : List ℕ) (h : k ≤ p) (l : p < length u) (so_far : Gains old (each_with c (flat_map F (take (p - k) (drop k u)))) cur) where
    pub adds_place : (more : List (List ℕ)) (new : WholeTermsOf (List ℕ)) → F (get_or u p 0) ≡ more → Gains cur (each_with c more) new
        → Gains old (each_with c (flat_map F (take (p + 1 - k) (drop k u)))) new
    adds_place more new e g =
        subst (λ x. Gains old x new)
        (sym (each_append c (flat_map F (take (p - k) (drop k u))) more)
        ∙ ap (each_with c) (ap (λ x. flat_map F (take (p - k) (drop k u)) ++ x) (sym e) ∙ sym (next_ends F k p u h l)))
        (gains_both old (each_with c (flat_map F (take (p - k) (drop k u)))) cur (each_with c more) new so_far g)

    pub skips_place : F (get_or u p 0) ≡ [] → Gains old (each_with c (flat_map F (take (p + 1 - k) (drop k u)))) cur
    skips_place e = adds_place [] cur e (gains_none cur)

  module _ (h : p < k) (so_far : Gains old (each_with c (flat_map F (after (p + 1) (k - (p + 1))))) cur) where
    pub adds_cover : (more : List (List ℕ)) (new : WholeTermsOf (List ℕ)) → F (p + 1) ≡ more → Gains cur (each_with c more) new
        → Gains old (each_with c (flat_map F (after p (k - p)))) new
    adds_cover more new e g =
        gains_as old (each_with c (flat_map F (after (p + 1) (k - (p + 1)))) ++ each_with c more) (each_with c (flat_map F (after p (k - p)))) new
        (λ φ.
        let a = over_append φ (each_with c (flat_map F (after (p + 1) (k - (p + 1))))) (each_with c more) in
        let b = over_append φ (each_with c more) (each_with c (flat_map F (after (p + 1) (k - (p + 1))))) in
        let d = ap (over φ) (sym (each_append c more (flat_map F (after (p + 1) (k - (p + 1)))))) in
        let f = ap (λ x. over φ (each_with c x)) (walk_next F k p h ∙ ap (λ x. x ++ flat_map F (after (p + 1) (k - (p + 1)))) e) in
        omega (arith, ints))
        (gains_both old (each_with c (flat_map F (after (p + 1) (k - (p + 1))))) cur (each_with c more) new so_far g)

    pub skips_cover : F (p + 1) ≡ [] → Gains old (each_with c (flat_map F (after p (k - p)))) cur
    skips_cover e = adds_cover [] cur e (gains_none cur)

-- ---- the greatest letter less than a given one

-- the letter y raises `low`
raised : (x y letter low : ℕ) → low ≤ y → y < letter → (nat_lt x y && nat_lt y letter) || nat_lt x low ≡ nat_lt x y
raised x y letter low h l = elim (cases_lt x y) [
  | inl f ↦
      ap₂ (λ s t. (s && t) || nat_lt x low) (lt-ltb x y f) (lt-ltb y letter l) ∙ sym (lt-ltb x y f)
  | inr f ↦
      ap₂ (λ s t. (s && nat_lt y letter) || t) (le-ltb x y f) (le-ltb x low (omega arith)) ∙ sym (le-ltb x y f)
]

-- the letter y does not raise `low`
not_raised : (x y letter low : ℕ) → (y ≤ low) ⊎ (letter ≤ y) → (nat_lt x y && nat_lt y letter) || nat_lt x low ≡ nat_lt x low
not_raised x y letter low (inl h) = elim (cases_lt x low) [
  | inl f ↦ ap (λ t. (nat_lt x y && nat_lt y letter) || t) (lt-ltb x low f) ∙ either (nat_lt x y && nat_lt y letter) ∙ sym (lt-ltb x low f)
  | inr f ↦ ap (λ s. (s && nat_lt y letter) || nat_lt x low) (le-ltb x y (omega arith))
]
  where
    either : (b : Bool) → (b || true) ≡ true
    either true = refl
    either false = refl
not_raised x y letter low (inr h) = ap (λ t. (nat_lt x y && t) || nat_lt x low) (le-ltb y letter h) ∙ neither (nat_lt x y)
  where
    neither : (b : Bool) → (b && false) || nat_lt x low ≡ nat_lt x low
    neither true = refl
    neither false = refl

pub in_front_raised : (y letter low : ℕ) (xs : List ℕ) → IsGreatestBelow letter xs low → low ≤ y → y < letter → IsGreatestBelow letter (y ∷ xs) y
in_front_raised y letter low xs g h l = record {
  between = λ x. ap (λ t. (nat_lt x y && nat_lt y letter) || t) (g.between x) ∙ raised x y letter low h l;
}

pub in_front_kept : (y letter low : ℕ) (xs : List ℕ) → IsGreatestBelow letter xs low → (y ≤ low) ⊎ (letter ≤ y) → IsGreatestBelow letter (y ∷ xs) low
in_front_kept y letter low xs g h = record {
  between = λ x. ap (λ t. (nat_lt x y && nat_lt y letter) || t) (g.between x) ∙ not_raised x y letter low h;
}

module _ (i letter low : ℕ) (xs : List ℕ) (h : i < length xs) (g : IsGreatestBelow letter (take i xs) low) where
  pub at_end_raised : (y : ℕ) → y ≡ get_or xs i 0 → low ≤ y → y < letter → IsGreatestBelow letter (take (i + 1) xs) y
  at_end_raised y e l f = record {
    between = λ x.
        list_any_more (λ a. nat_lt x a && nat_lt a letter) xs i 0 h
        ∙ ap₂ (λ s a. s || (nat_lt x a && nat_lt a letter)) (g.between x) (sym e)
        ∙ or_comm (nat_lt x low) (nat_lt x y && nat_lt y letter) ∙ raised x y letter low l f;
  }

  pub at_end_kept : (y : ℕ) → y ≡ get_or xs i 0 → (y ≤ low) ⊎ (letter ≤ y) → IsGreatestBelow letter (take (i + 1) xs) low
  at_end_kept y e f = record {
    between = λ x.
        list_any_more (λ a. nat_lt x a && nat_lt a letter) xs i 0 h
        ∙ ap₂ (λ s a. s || (nat_lt x a && nat_lt a letter)) (g.between x) (sym e)
        ∙ or_comm (nat_lt x low) (nat_lt x y && nat_lt y letter) ∙ not_raised x y letter low f;
  }

pub first_of : (a p : ℕ) (u : List ℕ) → a < p → p ≤ length u → take (p - a) (drop a u) ≡ get_or u a 0 ∷ take (p - (a + 1)) (drop (a + 1) u)
first_of a p u h l =
    let e : p - a ≡ suc (p - (a + 1)) = omega arith in
    ap₂ take e (drop_more u a 0 (omega arith))

-- ---- covers

pub filled_short : (n : ℕ) (w : List ℕ) → IsShort n w → n ≤ 32 → IsFilled (with_fixed 32 w) (inversions (with_fixed 32 w)) × (kept (with_fixed 32 w) ≡ w)
filled_short n w s l =
    let short = s.short in
    let wide : IsShort 32 w = record { one_line = s.one_line; short = omega arith; some = s.some; whole = s.whole } in (
      record { one_line = fixed_one_line 32 w wide; long = length-with_fixed 32 w wide.short; count_is = refl },
      kept_added w (32 - length w) s.some ∙ s.whole,
    )

module _ (n a p low : ℕ) (w : List ℕ) (s : IsShort n w) (l : n ≤ 32) (h : a < p) (i : p < n)
    (g : IsGreatestBelow (get_or (with_fixed 32 w) p 0) (take (p - (a + 1)) (drop (a + 1) (with_fixed 32 w))) low) where
  pub rises : low ≤ get_or (with_fixed 32 w) a 0 → get_or (with_fixed 32 w) a 0 < get_or (with_fixed 32 w) p 0
      → (inversions (times_swap (a + 1) (p + 1) w) == inversions w + 1) ≡ true
  rises f r =
      let x = filled_short n w s l in
      let y = x.0 in
      let z = y.long in
      exchange_test (with_fixed 32 w) w (inversions (with_fixed 32 w)) a p x.1 y h (omega arith)
      ∙ sym (rising_test a p (with_fixed 32 w) h (omega arith) y.one_line.once r)
      ∙ ap not (g.between (get_or (with_fixed 32 w) a 0) ∙ le-ltb (get_or (with_fixed 32 w) a 0) low f)

  pub stays : (get_or (with_fixed 32 w) a 0 < low) ⊎ (get_or (with_fixed 32 w) p 0 ≤ get_or (with_fixed 32 w) a 0)
      → (inversions (times_swap (a + 1) (p + 1) w) == inversions w + 1) ≡ false
  stays f =
      let x = filled_short n w s l in
      let y = x.0 in
      let z = y.long in
      exchange_test (with_fixed 32 w) w (inversions (with_fixed 32 w)) a p x.1 y h (omega arith)
      ∙ by (omega arith) y f (cases_lt (get_or (with_fixed 32 w) a 0) (get_or (with_fixed 32 w) p 0))
    where
      by : p < length (with_fixed 32 w) → IsFilled (with_fixed 32 w) (inversions (with_fixed 32 w))
          → (get_or (with_fixed 32 w) a 0 < low) ⊎ (get_or (with_fixed 32 w) p 0 ≤ get_or (with_fixed 32 w) a 0)
          → (get_or (with_fixed 32 w) a 0 < get_or (with_fixed 32 w) p 0) ⊎ (get_or (with_fixed 32 w) p 0 ≤ get_or (with_fixed 32 w) a 0)
          → (inversions (swap (with_fixed 32 w) a p) == inversions (with_fixed 32 w) + 1) ≡ false
      by j y (inl f) (inl r) =
          sym (rising_test a p (with_fixed 32 w) h j y.one_line.once r)
          ∙ ap not (g.between (get_or (with_fixed 32 w) a 0) ∙ lt-ltb (get_or (with_fixed 32 w) a 0) low f)
      by j y (inr f) (inl r) = absurd (omega arith)
      by j y f (inr r) =
          sym (falling_test a p (with_fixed 32 w) h j y.one_line.once r) ∙ le-ltb (get_or (with_fixed 32 w) a 0) (get_or (with_fixed 32 w) p 0) r

-- the permutation after a cover
pub cover_short : (n a p : ℕ) (w v : List ℕ) → IsShort n w → a < p → p < n → v ≡ times_swap (a + 1) (p + 1) w
    → (inversions (times_swap (a + 1) (p + 1) w) == inversions w + 1) ≡ true → IsShort n v
cover_short n a p w v s h l e t =
    before_short (p + 1) n w v s (omega arith) (omega arith)
    (subst (λ x. Among x (covers_down (p + 1) w)) (sym e)
    (Among-select (λ x. inversions x == inversions w + 1) (times_swap (a + 1) (p + 1) w) (map (λ i. times_swap i (p + 1) w) (after 0 (p + 1 - 1)))
    (Among-map (λ i. times_swap i (p + 1) w) (a + 1) (after 0 (p + 1 - 1)) (among_after 0 (p + 1 - 1) (a + 1) (omega arith) (omega arith))) t))

-- ---- the loop over the places of the greater letter

kept_if : (b : Bool) → cond {A = List (List ℕ)} b [] [] ≡ []
kept_if true = refl
kept_if false = refl

module _ (n k p left most a : ℕ) (w : List ℕ) (s : IsShort n w) (few : n ≤ 32) (h : k ≤ p) (l : p < n) (is : a ≡ get_or (with_fixed 32 w) p 0) where
  here : a ≡ get_or (with_fixed n w) p 0
  here = is ∙ letter_short n p w s few l

  pub taken : a ≤ most → ends_to most left k n w (get_or (with_fixed n w) p 0) ≡ ends left k n w (get_or (with_fixed n w) p 0)
  taken f =
      let e = here in
      ap (λ t. cond t (ends left k n w (get_or (with_fixed n w) p 0)) []) (le-leb (get_or (with_fixed n w) p 0) most (omega arith))

  pub too_great : most < a → ends_to most left k n w (get_or (with_fixed n w) p 0) ≡ []
  too_great f =
      let e = here in
      ap (λ t. cond t (ends left k n w (get_or (with_fixed n w) p 0)) []) (lt-leb (get_or (with_fixed n w) p 0) most (omega arith))

  pub too_few : less_among k a (with_fixed 32 w) < suc left → ends_to most left k n w (get_or (with_fixed n w) p 0) ≡ []
  too_few f =
      let e = here in
      let q = length-with_fixed n w s.short in
      let r = (fixed_one_line n w s).letters (get_or (with_fixed n w) p 0) (among_get p 0 (with_fixed n w) (omega arith)) in
      let r0 = r.0 in
      let r1 = r.1 in
      let t = less_short n k a w s few (omega arith) in
      let v = ap (λ x. less_among k x (with_fixed n w)) e in
      ap (λ x. cond (nat_le (get_or (with_fixed n w) p 0) most) x [])
      (cut left k n w (get_or (with_fixed n w) p 0) s (omega arith) (omega arith) (omega arith))
      ∙ kept_if (nat_le (get_or (with_fixed n w) p 0) most)

pub letter_most : (n p a : ℕ) (w : List ℕ) → IsShort n w → n ≤ 32 → p < n → a ≡ get_or (with_fixed 32 w) p 0 → a ≤ n
letter_most n p a w s few l is =
    let e = is ∙ letter_short n p w s few l in
    let q = length-with_fixed n w s.short in
    let r = ((fixed_one_line n w s).letters (get_or (with_fixed n w) p 0) (among_get p 0 (with_fixed n w) (omega arith))).1 in
    omega arith

pub all_places : (c : ℤ) (n k p d most : ℕ) (w : List ℕ) (old new : WholeTermsOf (List ℕ)) → IsShort n w → n ≤ p → 0 < d → most ≤ n
    → Gains old (each_with c (flat_map (ends_to most (d - 1) k n w) (take (p - k) (drop k (with_fixed n w))))) new
    → Gains old (each_with c (kept_chains most d k n w)) new
all_places c n k p d most w old new s h l m g =
    let q = length-with_fixed n w s.short in
    let r = length-drop k (with_fixed n w) in
    let e : suc (d - 1) ≡ d = omega arith in
    gains_as old (each_with c (flat_map (ends_to most (d - 1) k n w) (take (p - k) (drop k (with_fixed n w))))) (each_with c (kept_chains most d k n w)) new
    (λ φ.
    each_over c φ (flat_map (ends_to most (d - 1) k n w) (take (p - k) (drop k (with_fixed n w))))
    ∙ ap (λ z. c *ℤ z)
    (ap (λ x. total φ (flat_map (ends_to most (d - 1) k n w) x)) (take_all (p - k) (drop k (with_fixed n w)) (omega arith))
    ∙ sym (by_places (d - 1) k n w φ s most m) ∙ ap (λ i. total φ (kept_chains most i k n w)) e)
    ∙ sym (each_over c φ (kept_chains most d k n w))) g

-- ---- the loop over the covers at a place

module _ (n at p k left letter other low : ℕ) (w : List ℕ) (s : IsShort n w) (few : n ≤ 32) (some : 0 < at) (first : at ≤ k) (later : k ≤ p) (inside : p < n)
    (is : letter ≡ get_or (with_fixed 32 w) p 0) (other_is : other ≡ get_or (with_fixed 32 w) (at - 1) 0)
    (g : IsGreatestBelow letter (take (p - at) (drop at (with_fixed 32 w))) low) where
  again : at ≡ at - 1 + 1
  again = omega arith

  between : IsGreatestBelow (get_or (with_fixed 32 w) p 0) (take (p - (at - 1 + 1)) (drop (at - 1 + 1) (with_fixed 32 w))) low
  between =
      subst (λ l. IsGreatestBelow l (take (p - (at - 1 + 1)) (drop (at - 1 + 1) (with_fixed 32 w))) low) is
      (subst (λ i. IsGreatestBelow letter (take (p - i) (drop i (with_fixed 32 w))) low) again g)

  front : other ∷ take (p - at) (drop at (with_fixed 32 w)) ≡ take (p - (at - 1)) (drop (at - 1) (with_fixed 32 w))
  front =
      let q = (filled_short n w s few).0.long in
      ap₂ (λ x i. x ∷ take (p - i) (drop i (with_fixed 32 w))) other_is again
      ∙ sym (first_of (at - 1) p (with_fixed 32 w) (omega arith) (omega arith))

  pub is_cover : low ≤ other → other < letter → (inversions (times_swap (at - 1 + 1) (p + 1) w) == inversions w + 1) ≡ true
  is_cover f r = rises n (at - 1) p low w s few (omega arith) inside between (omega arith) (omega arith)

  pub low_raised : low ≤ other → other < letter → IsGreatestBelow letter (take (p - (at - 1)) (drop (at - 1) (with_fixed 32 w))) other
  low_raised f r = subst (λ x. IsGreatestBelow letter x other) front (in_front_raised other letter low (take (p - at) (drop at (with_fixed 32 w))) g f r)

  pub low_kept : (other < low) ⊎ (letter ≤ other) → IsGreatestBelow letter (take (p - (at - 1)) (drop (at - 1) (with_fixed 32 w))) low
  low_kept f = subst (λ x. IsGreatestBelow letter x low) front (in_front_kept other letter low (take (p - at) (drop at (with_fixed 32 w))) g (weaker f))
    where
      weaker : (other < low) ⊎ (letter ≤ other) → (other ≤ low) ⊎ (letter ≤ other)
      weaker (inl x) = inl (omega arith)
      weaker (inr x) = inr x

  module _ (c : ℤ) (old cur : WholeTermsOf (List ℕ)) (so_far : Gains old (each_with c (flat_map (ends_at letter left k n w p) (after at (k - at)))) cur) where
    before : Gains old (each_with c (flat_map (ends_at letter left k n w p) (after (at - 1 + 1) (k - (at - 1 + 1))))) cur
    before = subst (λ i. Gains old (each_with c (flat_map (ends_at letter left k n w p) (after i (k - i)))) cur) again so_far

    pub more_added : low ≤ other → other < letter → (v : List ℕ) (new : WholeTermsOf (List ℕ)) → v ≡ times_swap (at - 1 + 1) (p + 1) w
        → Gains cur (each_with c (kept_chains (letter - 1) left k n v)) new
        → Gains old (each_with c (flat_map (ends_at letter left k n w p) (after (at - 1) (k - (at - 1))))) new
    more_added f r v new e more =
        adds_cover c (ends_at letter left k n w p) k (at - 1) old cur (omega arith) before (kept_chains (letter - 1) left k n v) new
        (ap (λ t. flat_map (λ x. kept_chains (letter - 1) left k n x) (cond t (times_swap (at - 1 + 1) (p + 1) w ∷ []) [])) (is_cover f r)
        ∙ append-nil (kept_chains (letter - 1) left k n (times_swap (at - 1 + 1) (p + 1) w)) ∙ ap (λ x. kept_chains (letter - 1) left k n x) (sym e)) more

    pub none_added : (other < low) ⊎ (letter ≤ other) → Gains old (each_with c (flat_map (ends_at letter left k n w p) (after (at - 1) (k - (at - 1))))) cur
    none_added f =
        skips_cover c (ends_at letter left k n w p) k (at - 1) old cur (omega arith) before
        (ap (λ t. flat_map (λ x. kept_chains (letter - 1) left k n x) (cond t (times_swap (at - 1 + 1) (p + 1) w ∷ []) []))
        (stays n (at - 1) p low w s few (omega arith) inside between (same f)))
      where
        same : (other < low) ⊎ (letter ≤ other)
            → (get_or (with_fixed 32 w) (at - 1) 0 < low) ⊎ (get_or (with_fixed 32 w) p 0 ≤ get_or (with_fixed 32 w) (at - 1) 0)
        same (inl x) = inl (omega arith)
        same (inr x) = inr (omega arith)

pub all_covers : (c : ℤ) (n k p at left letter : ℕ) (w : List ℕ) (old new : WholeTermsOf (List ℕ)) → IsShort n w → n ≤ 32 → at ≤ 0 → k ≤ p → p < n
    → letter ≡ get_or (with_fixed 32 w) p 0
    → Gains old (each_with c (flat_map (ends_at letter left k n w p) (after at (k - at)))) new
    → Gains old (each_with c (ends left k n w (get_or (with_fixed n w) p 0))) new
all_covers c n k p at left letter w old new s few none later inside is g =
    let q = length-with_fixed n w s.short in
    let o = fixed_one_line n w s in
    let r = o.letters (get_or (with_fixed n w) p 0) (among_get p 0 (with_fixed n w) (omega arith)) in
    let r0 = r.0 in
    let r1 = r.1 in
    let e : at ≡ 0 = omega arith in
    let f : k - at ≡ k = omega arith in
    subst (λ x. Gains old (each_with c x) new)
    (ap (flat_map (ends_at letter left k n w p)) (ap₂ after e f)
    ∙ ap (λ l. flat_map (ends_at l left k n w p) (places k)) (is ∙ letter_short n p w s few inside)
    ∙ walk_all left k n p (get_or (with_fixed n w) p 0) w
    (place_is (get_or (with_fixed n w) p 0) p (with_fixed n w) o (omega arith) (omega arith)
    (get_or_default (with_fixed n w) p (suc p) 0 (omega arith))) later) g
