-- Permutations in which each letter has at most m greater letters before it: their Schubert polynomials in m variables are not 0.
--     some_cover    if w is such a permutation and its last descent r is after place m, some cover v·t_ir, i < r, of v = w·t_rs is such a permutation
--     some_shape    if such a permutation u has at most m + 16 letters and increases at places 1 to m, S_u has a positive Schur coefficient
use Rattle.std.proofs.Common.{◌≡◌, ◌⊎◌, ℕ, zero, suc, ◌+◌, ◌-◌, ◌<◌, ◌≤◌, Bool, false, List, [], ◌∷◌, ◌==◌, map, take, drop, length, get_or, refl, sym, ◌∙◌, ap, ap₂, subst, arith, inl, inr, cond, count_by, Some, None, Option, unwrap_or, pos, ◌≤ℤ◌}
use Rattle.std.proofs.lemmas.Int.{ints}
use Rattle.std.proofs.lemmas.Bool.{cases_lt, cases_eq, eq-eqb, cond_below}
use Rattle.sym_model.specs.Sum.{Among}
use Rattle.std.proofs.lemmas.List.{get_or_append_left, take-append-le}
use Rattle.std.proofs.Common.{length-append}
use Rattle.std.proofs.lemmas.Bool.Decides.{nat_tests}
use Rattle.sym_model.specs.BetaList.{greater}
use Rattle.sym_model.specs.Partition.{IsPartition, rows, after}
use Rattle.sym_model.specs.Polynomial.{pair}
use Rattle.sym_model.specs.PlaceOrders.{inversions}
use Rattle.sym_model.specs.Permutation.{IsOneLine, IsTransition, last_descent, last_descent_place, kept, times_swap, covers_down}
use Rattle.sym_model.specs.Schubert.{schubert_in}
use Rattle.sym_model.proofs.AfterLists.{among_after}
use Rattle.sym_model.proofs.Exponents.{same_refl}
use Rattle.sym_model.proofs.Numbers.{counts-not_less, greater_fewer}
use Rattle.sym_model.proofs.Sums.{without, Among-map, Among-select, total-without, Among_from_without}
use Rattle.schubert_laws.proofs.FixedTails.{one_line_kept, inversions_kept}
use Rattle.schubert_laws.proofs.LowerPermutations.{kept_whole, transition_exists, transition_covers_lower}
use Rattle.schubert_laws.proofs.MonkFromOne.{swap_is, one_line_swap}
use Rattle.schubert_laws.proofs.Ranks.{rank_lower}
use Rattle.schubert_laws.proofs.Swaps.{swap_at, length-swap_at, get_swap_left, get_swap_right}
use Rattle.schubert_laws.proofs.Transition.{IsStep, get_swap_other, once_get}
use Rattle.schubert_laws.proofs.TransitionFromOne.{step_of, kept_swap, covers_down_kept}
use Rattle.schubert_laws.specs.TransitionOrder.{rank}
use Rattle.perm_codes.proofs.OneSwap.{lies_between, rising_count}
use Rattle.stanley_expand.specs.GreaterBefore.{HasMoreBefore}
use Rattle.stanley_expand.specs.Grassmannian.{IsRising, front_shape}
use Rattle.stanley_expand.specs.SchurPositive.{schur_test}
use Rattle.stanley_expand.proofs.GreaterBefore.{before, at_letter, from_letters, to_letters, greater_longer, greater_past, greater_one, greater_both, smaller_between, take_later}
use Rattle.stanley_expand.proofs.SchurPositive.{front_partition, front_rows, rising_covers, schur_pairs}
use Rattle.stanley_expand.proofs.GreaterLetters.{greater_next}
use Rattle.stanley_expand.proofs.Steps.{covers_pair, shape_pairs}
use Rattle.stanley_expand.proofs.Tables.{perms_natural}
use Rattle.partitions.proofs.Growing.{not_more}

-- ---- counts of greater letters in a prefix of a list

greater_gap : (x z q : ℕ) (w : List ℕ) → ((c : ℕ) → c < q → (get_or w c 0 ≤ x) ⊎ (z < get_or w c 0)) → greater x (take q w) ≤ greater z (take q w)
greater_gap x z zero w h = omega arith
greater_gap x z (suc q) [] h = omega arith
greater_gap x z (suc q) (y ∷ w) h =
    let e = greater_gap x z q w (λ c l. h (suc c) (omega arith)) in
    elim (h 0 (omega arith)) [
      | inl a ↦ let p = counts-not_less x y a in omega arith
      | inr a ↦ let p = sym (cond_below {X = ℕ} z y 1 0 a) in elim (cases_lt x y) [ inl b ↦ let r = sym (cond_below {X = ℕ} x y 1 0 b) in omega arith | inr b ↦ let r = counts-not_less x y b in omega arith ]
    ]

all_greater : (x q : ℕ) (w : List ℕ) → q ≤ length w → ((c : ℕ) → c < q → x < get_or w c 0) → greater x (take q w) ≡ q
all_greater x zero w h g = refl
all_greater x (suc q) [] h g = absurd (omega arith)
all_greater x (suc q) (y ∷ w) h g =
    let e = all_greater x q w (omega arith) (λ c l. g (suc c) (omega arith)) in
    let p = sym (cond_below {X = ℕ} x y 1 0 (g 0 (omega arith))) in
    omega arith

none_between : (low high n k : ℕ) (w : List ℕ) → ((c : ℕ) → k ≤ c → c < k + n → (get_or w c 0 ≤ low) ⊎ (high < get_or w c 0)) → k + n ≤ length w
    → count_by (lies_between low high) (take n (drop k w)) ≡ 0
none_between low high zero zero w h l = refl
none_between low high (suc n) zero [] h l = absurd (omega arith)
none_between low high (suc n) zero (y ∷ w) h l =
    let e = none_between low high n zero w (λ c a b. h (suc c) (omega arith) (omega arith)) (omega arith) in
    let f = outside (h 0 (omega arith) (omega arith)) in
    let g = counts-cons y w n f in
    omega arith
  where
    outside : (y ≤ low) ⊎ (high < y) → lies_between low high y ≡ false
    outside a = grind (arith, nat_tests)

    counts-cons : (y : ℕ) (w : List ℕ) (n : ℕ) → lies_between low high y ≡ false → count_by (lies_between low high) (take (suc n) (y ∷ w)) ≡ count_by (lies_between low high) (take n w)
    counts-cons y w n e = grind (arith, nat_tests)
none_between low high n (suc k) [] h l = absurd (omega arith)
none_between low high n (suc k) (y ∷ w) h l = none_between low high n k w (λ c a b. h (suc c) (omega arith) (omega arith)) (omega arith)

find_smaller : (x q : ℕ) (w : List ℕ) → ((i : ℕ) × (i < q) × (get_or w i 0 < x) × ((c : ℕ) → c < q → (get_or w c 0 ≤ get_or w i 0) ⊎ (x ≤ get_or w c 0))) ⊎ ((c : ℕ) → c < q → x ≤ get_or w c 0)
find_smaller x zero w = inr (λ c l. absurd (omega arith))
find_smaller x (suc q) w = by (find_smaller x q w) (cases_lt (get_or w q 0) x)
  where
    at_last : (P : ℕ → Type 0) → ((c : ℕ) → c < q → P c) → P q → (c : ℕ) → c < suc q → P c
    at_last P before here c l = elim (cases_eq c q) [ inl e ↦ subst P (sym e) here | inr n ↦ before c (omega arith) ]

    by : ((i : ℕ) × (i < q) × (get_or w i 0 < x) × ((c : ℕ) → c < q → (get_or w c 0 ≤ get_or w i 0) ⊎ (x ≤ get_or w c 0))) ⊎ ((c : ℕ) → c < q → x ≤ get_or w c 0)
        → (get_or w q 0 < x) ⊎ (x ≤ get_or w q 0)
        → ((i : ℕ) × (i < suc q) × (get_or w i 0 < x) × ((c : ℕ) → c < suc q → (get_or w c 0 ≤ get_or w i 0) ⊎ (x ≤ get_or w c 0))) ⊎ ((c : ℕ) → c < suc q → x ≤ get_or w c 0)
    by (inr none) (inr h) = inr (at_last (λ c. x ≤ get_or w c 0) none h)
    by (inr none) (inl h) = inl (q, omega arith, h, at_last (λ c. (get_or w c 0 ≤ get_or w q 0) ⊎ (x ≤ get_or w c 0)) (λ c l. inr (none c l)) (inl (omega arith)))
    by (inl (i, l, s, all)) (inr h) = inl (i, omega arith, s, at_last (λ c. (get_or w c 0 ≤ get_or w i 0) ⊎ (x ≤ get_or w c 0)) all (inr h))
    by (inl (i, l, s, all)) (inl h) = elim (cases_lt (get_or w i 0) (get_or w q 0)) [
      | inl g ↦ inl (q, omega arith, h, at_last (λ c. (get_or w c 0 ≤ get_or w q 0) ⊎ (x ≤ get_or w c 0)) (λ c k. elim (all c k) [ inl a ↦ inl (omega arith) | inr a ↦ inr a ]) (inl (omega arith)))
      | inr g ↦ inl (i, omega arith, s, at_last (λ c. (get_or w c 0 ≤ get_or w i 0) ⊎ (x ≤ get_or w c 0)) all (inl g))
    ]

-- ---- the exchanges of w to v = w·t_rs and of v to v·t_ir in the transition rule, with places counted from 0

down_few : (m q b p : ℕ) (w : List ℕ) → IsOneLine w → IsStep w q b → ((i : ℕ) → i < length w → before w i ≤ m) → p < length w → (p ≡ q → ⊥)
    → before (swap_at q b w) p ≤ m
down_few m q b p w o s few i n =
    let order = s.order in
    let inside = s.inside in
    let falls = s.falls in
    elim (cases_eq p b) [
      | inl c ↦
          let g = at_letter (swap_at q b w) b (get_or w q 0) (get_swap_right q b 0 w (omega arith) inside) in
          let a = greater_past (get_or w q 0) q b (swap_at q b w) (λ j h l. small j h l) in
          let d = ap (greater (get_or w q 0)) (take_later q q b w (omega arith) (omega arith)) in
          let t = ap (before (swap_at q b w)) c in
          let f = few q (omega arith) in
          omega arith
      | inr c ↦
          let g = at_letter (swap_at q b w) p (get_or w p 0) (get_swap_other q b p 0 w n c) in
          let f = few p i in
          elim (cases_lt p q) [
            | inl a ↦
                let d = ap (greater (get_or w p 0)) (take_later p q b w (omega arith) (omega arith)) in
                omega arith
            | inr a ↦ elim (cases_lt p b) [
              | inl d ↦
                  let t = greater_one (get_or w p 0) p q b w (omega arith) (omega arith) inside in
                  let l = smaller_between q b p w o s (omega arith) d in
                  let x = sym (cond_below {X = ℕ} (get_or w p 0) (get_or w b 0) 1 0 l) in
                  let y = sym (cond_below {X = ℕ} (get_or w p 0) (get_or w q 0) 1 0 (omega arith)) in
                  omega arith
              | inr d ↦
                  let t = greater_both (get_or w p 0) p q b w (omega arith) (omega arith) in
                  omega arith
            ]
          ]
    ]
  where
    small : (j : ℕ) → q ≤ j → j < b → get_or (swap_at q b w) j 0 ≤ get_or w q 0
    small j h l =
        let order = s.order in
        let inside = s.inside in
        let falls = s.falls in
        elim (cases_eq j q) [
          | inl e ↦ let d = ap (λ t. get_or (swap_at q b w) t 0) e in let x = get_swap_left q b 0 w (omega arith) inside in omega arith
          | inr e ↦ let x = get_swap_other q b j 0 w e (λ z. omega arith) in let y = smaller_between q b j w o s (omega arith) l in omega arith
        ]

down_first : (m q b : ℕ) (w : List ℕ) → IsStep w q b → before w b ≤ m → before (swap_at q b w) q < m
down_first m q b w s few =
    let order = s.order in
    let inside = s.inside in
    let g = at_letter (swap_at q b w) q (get_or w b 0) (get_swap_left q b 0 w (omega arith) inside) in
    let a = ap (greater (get_or w b 0)) (take_later q q b w (omega arith) (omega arith)) in
    let l = greater_longer (get_or w b 0) (suc q) b w order in
    let d = greater_next (get_or w b 0) q w (omega arith) in
    let c = sym (cond_below {X = ℕ} (get_or w b 0) (get_or w q 0) 1 0 s.falls) in
    omega arith

up_few : (m i q p : ℕ) (u : List ℕ) → i < q → q < length u → get_or u i 0 < get_or u q 0
    → ((c : ℕ) → c < q → (c ≡ i → ⊥) → (get_or u c 0 < get_or u i 0) ⊎ (get_or u q 0 < get_or u c 0))
    → ((c : ℕ) → c < length u → (c ≡ q → ⊥) → before u c ≤ m) → before u q < m → p < length u → before (swap_at i q u) p ≤ m
up_few m i q p u h k l gap few first inside = elim (cases_eq p q) [
  | inl e ↦
      let g = at_letter (swap_at i q u) q (get_or u i 0) (get_swap_right i q 0 u (omega arith) k) in
      let t = ap (before (swap_at i q u)) e in
      let o = greater_one (get_or u i 0) q i q u h (omega arith) k in
      let a = counts-not_less (get_or u i 0) (get_or u i 0) (omega arith) in
      let b = sym (cond_below {X = ℕ} (get_or u i 0) (get_or u q 0) 1 0 l) in
      let c = greater_gap (get_or u i 0) (get_or u q 0) q u (λ j y. elim (cases_eq j i) [
        | inl d ↦ let r = ap (λ z. get_or u z 0) d in inl (omega arith)
        | inr n ↦ elim (gap j y n) [ inl r ↦ inl (omega arith) | inr r ↦ inr r ]
      ]) in
      omega arith
  | inr n ↦ elim (cases_eq p i) [
    | inl e ↦
        let g = at_letter (swap_at i q u) i (get_or u q 0) (get_swap_left i q 0 u (omega arith) k) in
        let t = ap (before (swap_at i q u)) e in
        let a = ap (greater (get_or u q 0)) (take_later i i q u (omega arith) (omega arith)) in
        let b = greater_fewer (get_or u q 0) (get_or u i 0) (take i u) (omega arith) in
        let f = few i (omega arith) (λ z. omega arith) in
        omega arith
    | inr e ↦
        let g = at_letter (swap_at i q u) p (get_or u p 0) (get_swap_other i q p 0 u e n) in
        let f = few p inside n in
        elim (cases_lt p i) [
          | inl a ↦ let b = ap (greater (get_or u p 0)) (take_later p i q u (omega arith) (omega arith)) in omega arith
          | inr a ↦ elim (cases_lt p q) [
            | inl b ↦
                let o = greater_one (get_or u p 0) p i q u (omega arith) (omega arith) k in
                elim (gap p b e) [
                  | inl r ↦ let x = sym (cond_below {X = ℕ} (get_or u p 0) (get_or u i 0) 1 0 r) in let y = sym (cond_below {X = ℕ} (get_or u p 0) (get_or u q 0) 1 0 (omega arith)) in omega arith
                  | inr r ↦ let y = counts-not_less (get_or u p 0) (get_or u q 0) (omega arith) in omega arith
                ]
            | inr b ↦ let o = greater_both (get_or u p 0) p i q u (omega arith) (omega arith) in omega arith
          ]
        ]
  ]
]

-- ---- a cover in the transition rule in which each letter has at most m greater letters before it

abbrev IsLeft : ℕ → ℕ → List ℕ → Type 0
IsLeft m q u = (i : ℕ) × (i < q) × (inversions (swap_at i q u) ≡ inversions u + 1) × ((p : ℕ) → p < length u → before (swap_at i q u) p ≤ m)

some_left : (m q b : ℕ) (w : List ℕ) → IsOneLine w → IsStep w q b → m ≤ q → ((p : ℕ) → p < length w → before w p ≤ m) → IsLeft m q (swap_at q b w)
some_left m q b w o s last few = by (find_smaller (get_or (swap_at q b w) q 0) q (swap_at q b w))
  where
    u : List ℕ
    u = swap_at q b w

    by : ((i : ℕ) × (i < q) × (get_or (swap_at q b w) i 0 < get_or (swap_at q b w) q 0) × ((c : ℕ) → c < q → (get_or (swap_at q b w) c 0 ≤ get_or (swap_at q b w) i 0) ⊎ (get_or (swap_at q b w) q 0 ≤ get_or (swap_at q b w) c 0)))
        ⊎ ((c : ℕ) → c < q → get_or (swap_at q b w) q 0 ≤ get_or (swap_at q b w) c 0) → IsLeft m q (swap_at q b w)
    by (inr none) =
        let order = s.order in
        let inside = s.inside in
        let lu = length-swap_at q b w in
        let ou = one_line_swap q b w (omega arith) inside o in
        let a = all_greater (get_or (swap_at q b w) q 0) q (swap_at q b w) (omega arith) (λ c l.
        let n = none c l in
        elim (cases_lt (get_or (swap_at q b w) q 0) (get_or (swap_at q b w) c 0)) [
          | inl f ↦ f
          | inr f ↦ let z = once_get (swap_at q b w) c q ou.once (omega arith) (omega arith) (omega arith) in absurd (omega arith)
        ]) in
        let d = down_first m q b w s (few b inside) in
        absurd (omega arith)
    by (inl (i, h, l, all)) =
        let order = s.order in
        let inside = s.inside in
        let lu = length-swap_at q b w in
        let ou = one_line_swap q b w (omega arith) inside o in
        let gap : (c : ℕ) → c < q → (c ≡ i → ⊥) → (get_or (swap_at q b w) c 0 < get_or (swap_at q b w) i 0) ⊎ (get_or (swap_at q b w) q 0 < get_or (swap_at q b w) c 0) =
        λ c k n. elim (all c k) [
          | inl r ↦ elim (cases_lt (get_or (swap_at q b w) c 0) (get_or (swap_at q b w) i 0)) [
            | inl f ↦ inl f
            | inr f ↦ absurd (n (once_get (swap_at q b w) c i ou.once (omega arith) (omega arith) (omega arith)))
          ]
          | inr r ↦ elim (cases_lt (get_or (swap_at q b w) q 0) (get_or (swap_at q b w) c 0)) [
            | inl f ↦ inr f
            | inr f ↦ let z = once_get (swap_at q b w) c q ou.once (omega arith) (omega arith) (omega arith) in absurd (omega arith)
          ]
        ] in
        let e : i + 1 + (q - (i + 1)) ≡ q = omega arith in
        let none = none_between (get_or (swap_at q b w) i 0) (get_or (swap_at q b w) q 0) (q - (i + 1)) (i + 1) (swap_at q b w)
        (λ c x y. elim (gap c (omega arith) (λ z. omega arith)) [ inl r ↦ inl (omega arith) | inr r ↦ inr r ]) (omega arith) in
        let count = rising_count i q (swap_at q b w) h (omega arith) ou.once l in
        let same = ap inversions (swap_is (swap_at q b w) i q (omega arith) (omega arith)) in (
          i,
          h,
          omega arith,
          λ p k. up_few m i q p (swap_at q b w) h (omega arith) l gap
              (λ c x n. down_few m q b c w o s few (omega arith) n) (down_first m q b w s (few b inside)) k,
        )

few_kept : (m : ℕ) (v : List ℕ) → IsOneLine v → ((p : ℕ) → p < length v → before v p ≤ m) → HasMoreBefore m (kept v) → ⊥
few_kept m v o few more =
    let f = from_letters m (kept v) (one_line_kept v o) more in
    let t = kept_whole v in
    let f1 = f.1 in
    let f2 = f.2 in
    let l = ap length t.1 ∙ length-append (kept v) (after (length (kept v)) t.0) in
    let a = ap (λ z. get_or z f.0 0) t.1 ∙ get_or_append_left (kept v) (after (length (kept v)) t.0) 0 f.0 f.1 in
    let b = ap (take f.0) t.1 ∙ take-append-le f.0 (kept v) (after (length (kept v)) t.0) (omega arith) in
    let c : before v f.0 ≡ before (kept v) f.0 = ap₂ greater a b in
    let g = few f.0 (omega arith) in
    omega arith

pub some_cover : (w : List ℕ) (r s m : ℕ) → IsOneLine w → IsTransition w r s → m < r → (HasMoreBefore m w → ⊥)
    → (x : List ℕ) × Among x (covers_down r (times_swap r s w)) × (HasMoreBefore m x → ⊥)
some_cover w r s m o t h few =
    let p = step_of w r s o t in
    let g = p.4 in
    let order = g.order in
    let inside = g.inside in
    let r_is = p.2 in
    let ou = one_line_swap p.0 p.1 w (omega arith) inside o in
    let lu = length-swap_at p.0 p.1 w in
    let e : times_swap r s w ≡ kept (swap_at p.0 p.1 w) = ap₂ (λ i j. times_swap i j w) p.2 p.3 ∙ kept_swap w p.0 p.1 g.order g.inside in
    let c : covers_down r (times_swap r s w) ≡ covers_down (suc p.0) (swap_at p.0 p.1 w) = ap₂ covers_down p.2 e ∙ covers_down_kept (suc p.0) (swap_at p.0 p.1 w) ou in
    let left = some_left m p.0 p.1 w o g (omega arith) (λ i l. not_more _ m (λ b. few (to_letters m w (i, l, b)))) in
    let first = left.1 in
    let oy = one_line_swap left.0 p.0 (swap_at p.0 p.1 w) (omega arith) (omega arith) ou in
    let y : times_swap (suc left.0) (suc p.0) (swap_at p.0 p.1 w) ≡ kept (swap_at left.0 p.0 (swap_at p.0 p.1 w)) = kept_swap (swap_at p.0 p.1 w) left.0 p.0 left.1 (omega arith) in
    let i : inversions (times_swap (suc left.0) (suc p.0) (swap_at p.0 p.1 w)) ≡ inversions (swap_at p.0 p.1 w) + 1 = ap inversions y ∙ inversions_kept (swap_at left.0 p.0 (swap_at p.0 p.1 w)) oy ∙ left.2 in
    let ly = length-swap_at left.0 p.0 (swap_at p.0 p.1 w) in (
      times_swap (suc left.0) (suc p.0) (swap_at p.0 p.1 w),
      subst (Among (times_swap (suc left.0) (suc p.0) (swap_at p.0 p.1 w))) (sym c)
          (Among-select (λ (v : List ℕ). inversions v == inversions (swap_at p.0 p.1 w) + 1) (times_swap (suc left.0) (suc p.0) (swap_at p.0 p.1 w))
          (map (λ k. times_swap k (suc p.0) (swap_at p.0 p.1 w)) (after 0 (suc p.0 - 1)))
          (Among-map (λ k. times_swap k (suc p.0) (swap_at p.0 p.1 w)) (suc left.0) (after 0 (suc p.0 - 1)) (among_after 0 (suc p.0 - 1) (suc left.0) (omega arith) (omega arith)))
          (eq-eqb (inversions (times_swap (suc left.0) (suc p.0) (swap_at p.0 p.1 w))) (inversions (swap_at p.0 p.1 w) + 1) i)),
      λ more. few_kept m (swap_at left.0 p.0 (swap_at p.0 p.1 w)) oy (λ j l. left.3 j (omega arith)) (subst (HasMoreBefore m) y more),
    )

abbrev pub HasShape : ℕ → List ℕ → Type 0
HasShape m u = (κ : List ℕ) × IsPartition κ × (rows κ ≤ m) × (pos 1 ≤ℤ pair (schubert_in u m) (schur_test m κ))

shape_within : (k m : ℕ) (u : List ℕ) → rank (suc (m + 16)) u < k → IsRising m (m + 16) u → (HasMoreBefore m u → ⊥) → HasShape m u
shape_within zero m u b i few = absurd (omega arith)
shape_within (suc k) m u b i few = by (last_descent u) refl (λ x c j f. shape_within k m x c j f)
  where
    at_leaf : last_descent_place u ≤ m → HasShape m u
    at_leaf d =
        let q = front_partition m u i.short.one_line i.rises in
        let few = front_rows m u in
        let e = shape_pairs m (m + 16) u i d (schur_test m (front_shape m u)) ∙ schur_pairs m (front_shape m u) (front_shape m u) q q few
        ∙ ap (λ (b : Bool). cond b (pos 1) (pos 0)) (same_refl (front_shape m u)) in
        (front_shape m u, q, few, omega (arith, ints))

    by : (d : Option ℕ) → last_descent u ≡ d → ((x : List ℕ) → rank (suc (m + 16)) x < k → IsRising m (m + 16) x → (HasMoreBefore m x → ⊥) → HasShape m x) → HasShape m u
    by None e rec = at_leaf (let q = ap (λ t. unwrap_or t 0) e in omega arith)
    by (Some r) e rec = elim (cases_lt m r) [
      | inr f ↦ at_leaf (let q = ap (λ t. unwrap_or t 0) e in omega arith)
      | inl f ↦
          let t = transition_exists u r i.short.one_line e in
          let x = some_cover u r t.0 m i.short.one_line t.1 f few in
          let j = rising_covers m (m + 16) r t.0 u x.0 i t.1 f x.1 in
          let short = j.short.few in
          let l = rank_lower (suc (m + 16)) x.0 u j.short.one_line (omega arith) (transition_covers_lower u r t.0 i.short.one_line t.1 x.0 x.1) in
          let g = rec x.0 (omega arith) j x.2 in
          let c = covers_pair m (m + 16) r t.0 u (schur_test m g.0) i t.1 f in
          let a = total-without (λ y. pair (schubert_in y m) (schur_test m g.0)) x.0 (covers_down r (times_swap r t.0 u)) x.1 in
          let n = perms_natural m g.0 g.1 g.2 (without x.0 (covers_down r (times_swap r t.0 u)) x.1)
          (λ y k. rising_covers m (m + 16) r t.0 u y i t.1 f (Among_from_without y x.0 (covers_down r (times_swap r t.0 u)) x.1 k)) in
          let one = g.3 in
          (g.0, g.1, g.2, omega (arith, ints))
    ]

pub some_shape : (m : ℕ) (u : List ℕ) → IsRising m (m + 16) u → (HasMoreBefore m u → ⊥) → HasShape m u
some_shape m u i few = shape_within (suc (rank (suc (m + 16)) u)) m u (omega arith) i few
