-- The recursion by the transition rule terminates: each permutation on the right side of the rule is lower (`IsLower`) than the one on the left side,
-- and for each permutation except the identity there are places r and s to which the rule applies (`IsTransition`). Counted from 0, these places are
-- the last descent q and the last place b whose letter is smaller than that at q (`IsStep`).
use Rattle.std.proofs.lemmas.Grind.{common_steps}
use Rattle.std.proofs.Common.{◌≡◌, ℕ, zero, suc, ◌+◌, ◌-◌, ◌<◌, ◌≤◌, List, [], ◌∷◌, ◌++◌, ◌==◌, map, length, get_or, refl, sym, ◌∙◌, ap, ap₂, subst, arith, inl, inr, ◌⊎◌, cond, nat_lt, eqb-true, Some, None, Option, option_map, unwrap_or, replicate, rules}
use Rattle.std.specs.Option.{option_or}
use Rattle.std.proofs.lemmas.List.{append-nil, get_or_past, get_or_default}
use Rattle.std.proofs.lemmas.Bool.{cases_eq, cases_lt, le-ltb}
use Rattle.sym_model.specs.Sum.{Among, Once}
use Rattle.sym_model.specs.Polynomial.{Same, coefficient, one, restrict}
use Rattle.sym_model.specs.Partition.{after, Falls}
use Rattle.sym_model.specs.PlaceOrders.{inversions, smaller}
use Rattle.sym_model.specs.BetaList.{rising_pairs}
use Rattle.sym_model.specs.Permutation.{IsOneLine, code, IsTransition, IsLower, letter, last_descent, last_descent_place, kept, times_swap, covers_down}
use Rattle.sym_model.specs.DividedDifference.{x_to}
use Rattle.sym_model.specs.Schubert.{schubert, schubert_in}
use Rattle.sym_model.proofs.Polynomials.{Same_trans, restrict_respects}
use Rattle.sym_model.proofs.PolynomialLaws.{restrict-one}
use Rattle.sym_model.proofs.Sums.{Among_from_map, Among_from_select}
use Rattle.schubert_laws.proofs.Dominant.{dominant}
use Rattle.schubert_laws.proofs.FixedTails.{one_line_next, next_after, one_line_kept, kept_tail, inversions_kept, one_less_rising}
use Rattle.schubert_laws.proofs.PathsFromOne.{below_next}
use Rattle.schubert_laws.proofs.Swaps.{swap_at, length-swap_at, raises, get_swap_left, get_swap_right, among_get}
use Rattle.schubert_laws.proofs.MonkFromOne.{one_line_swap}
use Rattle.schubert_laws.proofs.Transition.{IsStep, RisesFrom, last_descent_is, one_fewer, rises_chain, get_swap_other, once_get}
use Rattle.schubert_laws.proofs.TransitionFromOne.{step_of, kept_swap, covers_down_kept}
use Rattle.sym_model.proofs.AfterLists.{after_among}
use Rattle.sym_model.proofs.Numbers.{counts-not_less}
use Rattle.sym_model.proofs.Parts.{Falls-zeros}

-- ---- fixed letters at the end change neither the letter at a place nor the last descent

letter_next : (w : List ℕ) (i : ℕ) → 1 ≤ i → letter (w ++ ((length w + 1) ∷ [])) i ≡ letter w i
letter_next w i h = grind (arith, common_steps)

pub letter_added : (k : ℕ) (w : List ℕ) (i : ℕ) → 1 ≤ i → letter (w ++ after (length w) k) i ≡ letter w i
letter_added zero w i h = ap (λ v. letter v i) (append-nil w)
letter_added (suc k) w i h = ap (λ v. letter v i) (next_after w k) ∙ letter_added k (w ++ ((length w + 1) ∷ [])) i h ∙ letter_next w i h

last_descent_next : (m : ℕ) (w : List ℕ) → ((a : ℕ) → Among a w → a < m) → last_descent (w ++ (m ∷ [])) ≡ last_descent w
last_descent_next m [] h = refl
last_descent_next m (a ∷ []) h = ap (λ t. cond t (Some 1) None) (le-ltb m a (let g = h a (inl refl) in omega arith))
last_descent_next m (a ∷ b ∷ w) h = ap (λ o. option_or (option_map suc o) (cond (nat_lt b a) (Some 1) None)) (last_descent_next m (b ∷ w) (λ x i. h x (inr i)))

pub last_descent_added : (k : ℕ) (w : List ℕ) → IsOneLine w → last_descent (w ++ after (length w) k) ≡ last_descent w
last_descent_added zero w o = ap last_descent (append-nil w)
last_descent_added (suc k) w o = search (rules, next_after, one_line_next, last_descent_next, below_next, (last_descent_added k))

pub kept_whole : (w : List ℕ) → (k : ℕ) × (w ≡ kept w ++ after (length (kept w)) k)
kept_whole w =
    let t = kept_tail w in
    let e : 0 + length (kept w) ≡ length (kept w) = omega arith in
    (t.0, t.1 ∙ ap (λ n. kept w ++ after n t.0) e)

pub letter_kept : (w : List ℕ) (i : ℕ) → 1 ≤ i → letter (kept w) i ≡ letter w i
letter_kept w i h = let t = kept_whole w in sym (letter_added t.0 (kept w) i h) ∙ ap (λ v. letter v i) (sym t.1)

pub last_descent_kept : (w : List ℕ) → IsOneLine w → last_descent (kept w) ≡ last_descent w
last_descent_kept w o = let t = kept_whole w in sym (last_descent_added t.0 (kept w) (one_line_kept w o)) ∙ ap last_descent (sym t.1)

fewer : (w : List ℕ) (q b : ℕ) → IsOneLine w → IsStep w q b → inversions (kept (swap_at q b w)) < inversions w
fewer w q b o s = search (rules, one_fewer, inversions_kept, swap_at, one_line_swap)

still_rises : (w : List ℕ) (q b : ℕ) → IsStep w q b → RisesFrom q (swap_at q b w)
still_rises w q b s c h l = search (rules, length-swap_at, get_swap_right, cases_eq, swap_at, get_swap_other, rises_chain)

-- ---- the covers of w·t_qb in which the letter at q is swapped with an earlier one

pub cover_falls : (u : List ℕ) (p q : ℕ) → Once u → p < q → q < length u → rising_pairs u ≡ suc (rising_pairs (swap_at p q u)) → get_or u p 0 < get_or u q 0
cover_falls u p q o h l e = search (rules, cases_lt, raises, once_get)

-- the last descent of y, counted from 1, is less than q + 1, or it is q + 1 and the letter there is smaller than `top`
abbrev IsEarlier : List ℕ → ℕ → ℕ → Type 0
IsEarlier y q top = (last_descent_place y < suc q) ⊎ ((last_descent_place y ≡ suc q) × (letter y (last_descent_place y) < top))

earlier : (y : List ℕ) (q top : ℕ) → RisesFrom q y → q < length y → get_or y q 0 < top → IsEarlier y q top
earlier y q top r l t = by (last_descent y) refl
  where
    by : (o : Option ℕ) → last_descent y ≡ o → IsEarlier y q top
    by None e = let z = ap (λ p. unwrap_or p 0) e in inl (omega arith)
    by (Some d) e =
        let f = last_descent_is y (Some d) e in
        let z : last_descent_place y ≡ d = ap (λ p. unwrap_or p 0) e in
        let f1 = f.1 in
        let f2 = f.2 in
        let f3 = f.3 in
        elim (cases_lt f.0 q) [
          | inl h ↦ inl (omega arith)
          | inr h ↦ elim (cases_eq f.0 q) [
            | inl g ↦
                let i : last_descent_place y - 1 ≡ q = omega arith in
                let x = ap (λ j. get_or y j (last_descent_place y)) i ∙ get_or_default y q (last_descent_place y) 0 l in
                inr (omega arith, omega arith)
            | inr n ↦ let x = r f.0 (omega arith) f2 in absurd (omega arith)
          ]
        ]

rises_of_swap : (w : List ℕ) (p q b : ℕ) → IsStep w q b → p < q → RisesFrom q (swap_at p q (swap_at q b w))
rises_of_swap w p q b s h c i l = search (rules, length-swap_at, swap_at, get_swap_other, still_rises)

pub lowered_cover : (w : List ℕ) (p q b : ℕ) → IsOneLine w → IsStep w q b → last_descent w ≡ Some (suc q) → p < q
    → inversions (kept (swap_at p q (swap_at q b w))) ≡ inversions (swap_at q b w) + 1 → IsLower (kept (swap_at p q (swap_at q b w))) w
lowered_cover w p q b o s d h e =
    let order = s.order in
    let inside = s.inside in
    let falls = s.falls in
    let u : List ℕ = swap_at q b w in
    let y : List ℕ = swap_at p q (swap_at q b w) in
    let lu = length-swap_at q b w in
    let ly = length-swap_at p q (swap_at q b w) in
    let ou = one_line_swap q b w (omega arith) inside o in
    let oy = one_line_swap p q (swap_at q b w) (omega arith) (omega arith) ou in
    let ky = inversions_kept (swap_at p q (swap_at q b w)) oy in
    let up = one_fewer w q b o s in
    let down = one_less_rising (swap_at q b w) (swap_at p q (swap_at q b w)) ou.once oy.once ly (omega arith) in
    let cf = cover_falls (swap_at q b w) p q ou.once h (omega arith) down in
    let uq = get_swap_left q b 0 w (omega arith) inside in
    let yq = get_swap_right p q 0 (swap_at q b w) (omega arith) (omega arith) in
    let rises = rises_of_swap w p q b s h in
    let ear = earlier (swap_at p q (swap_at q b w)) q (get_or w q 0) rises (omega arith) (omega arith) in
    let dk : last_descent_place (kept (swap_at p q (swap_at q b w))) ≡ last_descent_place (swap_at p q (swap_at q b w)) = ap (λ t. unwrap_or t 0) (last_descent_kept (swap_at p q (swap_at q b w)) oy) in
    let dw : last_descent_place w ≡ suc q = ap (λ t. unwrap_or t 0) d in
    let i : suc q - 1 ≡ q = omega arith in
    let lw = ap (letter w) dw ∙ ap (λ t. get_or w t (suc q)) i ∙ get_or_default w q (suc q) 0 (omega arith) in
    inr (
      omega arith,
      elim ear [
        | inl f ↦ inl (omega arith)
        | inr f ↦
            let f0 = f.0 in
            let f1 = f.1 in
            let lk = ap (letter (kept (swap_at p q (swap_at q b w)))) dk ∙ letter_kept (swap_at p q (swap_at q b w)) (last_descent_place (swap_at p q (swap_at q b w))) (omega arith) in
            inr (omega arith, omega arith)
      ],
    )

pub transition_lowers : (w : List ℕ) (r s : ℕ) → IsOneLine w → IsTransition w r s → IsLower (times_swap r s w) w
transition_lowers w r s o t = search (rules, step_of, kept_swap, fewer)

-- if r and s are the places of the transition rule for w, then w has one inversion more than w·t_rs
pub transition_inversions : (w : List ℕ) (r s : ℕ) → IsOneLine w → IsTransition w r s → inversions w ≡ inversions (times_swap r s w) + 1
transition_inversions w r s o t = search (rules, step_of, one_fewer, inversions_kept, swap_at, one_line_swap, kept_swap)

covers_lower : (w : List ℕ) (q b : ℕ) (x : List ℕ) → IsOneLine w → IsStep w q b → last_descent w ≡ Some (suc q) → Among x (covers_down (suc q) (swap_at q b w)) → IsLower x w
covers_lower w q b x o s d m =
    let order = s.order in
    let inside = s.inside in
    let lu = length-swap_at q b w in
    let a = Among_from_select (λ (v : List ℕ). inversions v == inversions (swap_at q b w) + 1) x (map (λ i. times_swap i (suc q) (swap_at q b w)) (after 0 (suc q - 1))) m in
    let c = Among_from_map (λ i. times_swap i (suc q) (swap_at q b w)) x (after 0 (suc q - 1)) a.0 in
    let r = after_among 0 (suc q - 1) c.0 c.1 in
    let r0 = r.0 in
    let r1 = r.1 in
    let i : suc (c.0 - 1) ≡ c.0 = omega arith in
    let e : x ≡ kept (swap_at (c.0 - 1) q (swap_at q b w)) =
    c.2 ∙ ap (λ t. times_swap t (suc q) (swap_at q b w)) (sym i) ∙ kept_swap (swap_at q b w) (c.0 - 1) q (omega arith) (omega arith) in
    let n = eqb-true (inversions x) (inversions (swap_at q b w) + 1) a.1 in
    subst (λ v. IsLower v w) (sym e) (lowered_cover w (c.0 - 1) q b o s d (omega arith) (sym (ap inversions e) ∙ n))

pub transition_covers_lower : (w : List ℕ) (r s : ℕ) → IsOneLine w → IsTransition w r s → (x : List ℕ) → Among x (covers_down r (times_swap r s w)) → IsLower x w
transition_covers_lower w r s o t x m = search (rules, step_of, one_line_swap, swap_at, kept_swap, covers_down_kept, covers_lower)

-- c is the last of the places l, .., m of w whose entry is smaller than `top`
abbrev IsLastSmaller : List ℕ → ℕ → ℕ → ℕ → ℕ → Type 0
IsLastSmaller w top l m c = (l ≤ c) × (c ≤ m) × (get_or w c 0 < top) × ((d : ℕ) → c < d → d ≤ m → top ≤ get_or w d 0)

last_smaller : (w : List ℕ) (top l m : ℕ) → l ≤ m → get_or w l 0 < top → (c : ℕ) × IsLastSmaller w top l m c
last_smaller w top l zero h f = search rules
last_smaller w top l (suc m) h f =
    elim (cases_lt (get_or w (suc m) 0) top) [
      | inl g ↦ (suc m, (h, omega arith, g, λ d i j. absurd (omega arith)))
      | inr g ↦
          let r = last_smaller w top l m (less g) f in
          let r0 = r.1.0 in
          let r1 = r.1.1 in
          (r.0, (r.1.0, omega arith, r.1.2, later g r.0 r.1))
    ]
  where
    less : top ≤ get_or w (suc m) 0 → l ≤ m
    less g = elim (cases_lt m l) [
      | inl i ↦ let e : l ≡ suc m = omega arith in let z = ap (λ t. get_or w t 0) e in absurd (omega arith)
      | inr i ↦ i
    ]

    later : top ≤ get_or w (suc m) 0 → (c : ℕ) → IsLastSmaller w top l m c → (d : ℕ) → c < d → d ≤ suc m → top ≤ get_or w d 0
    later g c r d i j = elim (cases_lt d (suc m)) [
      | inl k ↦ r.3 d i (omega arith)
      | inr k ↦ let e : d ≡ suc m = omega arith in let z = ap (λ t. get_or w t 0) e in omega arith
    ]

pub transition_exists : (w : List ℕ) (r : ℕ) → IsOneLine w → last_descent w ≡ Some r → (s : ℕ) × IsTransition w r s
transition_exists w r o e =
    let f = last_descent_is w (Some r) e in
    let f1 = f.1 in
    let f2 = f.2 in
    let f3 = f.3 in
    let c = last_smaller w (get_or w f.0 0) (suc f.0) (length w - 1) (omega arith) f3 in
    let c0 = c.1.0 in
    let c1 = c.1.1 in
    let c2 = c.1.2 in
    let i : r - 1 ≡ f.0 = omega arith in
    let lr = ap (λ t. get_or w t r) i ∙ get_or_default w f.0 r 0 (omega arith) in
    let j : suc c.0 - 1 ≡ c.0 = omega arith in
    let ls = ap (λ t. get_or w t (suc c.0)) j ∙ get_or_default w c.0 (suc c.0) 0 (omega arith) in
    let m = (o.letters (get_or w f.0 0) (among_get f.0 0 w (omega arith))).1 in (
      suc c.0,
      record {
        descent = e;
        counts = omega arith;
        smaller = omega arith;
        last = λ d h. elim (cases_lt (d - 1) (length w)) [
          | inl l ↦
              let x = get_or_default w (d - 1) d 0 l in
              let y = c.1.3 (d - 1) (omega arith) (omega arith) in
              omega arith
          | inr l ↦ let x = get_or_past w (d - 1) d l in omega arith
        ];
      },
    )

-- ---- a permutation without a descent is the identity

pub smaller_of_none : (a : ℕ) (w : List ℕ) → ((b : ℕ) → Among b w → a ≤ b) → smaller a w ≡ 0
smaller_of_none a [] h = refl
smaller_of_none a (b ∷ w) h =
    let c = counts-not_less b a (h b (inl refl)) in
    let e = smaller_of_none a w (λ x i. h x (inr i)) in
    omega arith

abbrev pub NeverFalls : List ℕ → Type 0
NeverFalls w = (b : ℕ) → suc b < length w → get_or w b 0 ≤ get_or w (suc b) 0

first_least : (a : ℕ) (w : List ℕ) → NeverFalls (a ∷ w) → (b : ℕ) → Among b w → a ≤ b
first_least a [] n b m = absurd m
first_least a (c ∷ w) n b m = by m (first_least c w (λ i h. n (suc i) (omega arith)))
  where
    by : (b ≡ c) ⊎ Among b w → ((x : ℕ) → Among x w → c ≤ x) → a ≤ b
    by (inl e) rest = let l = n 0 (omega arith) in omega arith
    by (inr k) rest = let l = n 0 (omega arith) in let r = rest b k in omega arith

pub code_never_falls : (w : List ℕ) → NeverFalls w → code w ≡ replicate (length w) 0
code_never_falls [] n = refl
code_never_falls (a ∷ w) n = ap₂ ◌∷◌ (smaller_of_none a w (first_least a w n)) (code_never_falls w (λ i h. n (suc i) (omega arith)))

pub identity_is_one : (w : List ℕ) (n : ℕ) → IsOneLine w → last_descent w ≡ None → Same (schubert_in w n) (one n)
identity_is_one w n o e =
    let c = code_never_falls w (last_descent_is w None e) in
    Same_trans (restrict n (schubert w)) (restrict n (one (length w))) (one n)
    (restrict_respects n (schubert w) (one (length w)) (λ α. dominant w o.once (subst Falls (sym c) (Falls-zeros (length w))) α ∙ ap (λ d. coefficient (x_to d) α) c))
    (restrict-one n (length w))
