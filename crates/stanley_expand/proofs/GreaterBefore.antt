-- Permutations in which some letter has more than m greater letters before it, under the transition rule.
--     step_more     if w is such a permutation, so is each cover v·t_ir, i < r, of v = w·t_rs in the transition rule
--     none_left     a permutation without a descent after place m is not such a permutation
--     no_polynomial the Schubert polynomial of such a permutation in m variables is 0
use Rattle.std.proofs.Common.{◌≡◌, ℕ, zero, suc, ◌+◌, ◌-◌, ◌<◌, ◌≤◌, List, [], ◌∷◌, map, take, length}
use Rattle.std.proofs.Common.{get_or, refl, sym, ◌∙◌, ap, ap₂, subst, arith, inl, inr, cond, nat_lt, Some, None}
use Rattle.std.proofs.Common.{Option, unwrap_or, ◌==◌, eqb-true}
use Rattle.std.proofs.lemmas.Bool.{cases_lt, cases_eq, cond_below}
use Rattle.std.proofs.lemmas.List.{get_or-take, get_or_past, take-set-le, take-append-le, get_or_default}
use Rattle.sym_model.specs.Sum.{Among}
use Rattle.sym_model.specs.BetaList.{greater}
use Rattle.sym_model.specs.Polynomial.{Same, nothing}
use Rattle.sym_model.specs.Partition.{after}
use Rattle.sym_model.specs.PlaceOrders.{inversions}
use Rattle.sym_model.specs.Permutation.{IsOneLine, IsTransition, letter, last_descent, last_descent_place}
use Rattle.sym_model.specs.Permutation.{kept, times_swap, covers_down}
use Rattle.sym_model.specs.Schubert.{schubert_in, schuberts_in}
use Rattle.sym_model.proofs.Sums.{Among_from_map, Among_from_select}
use Rattle.sym_model.proofs.AfterLists.{after_among}
use Rattle.sym_model.proofs.Numbers.{counts-not_less, greater_fewer}
use Rattle.sym_model.proofs.Polynomials.{Same_refl, Same_trans, plus_respects}
use Rattle.schubert_laws.specs.TransitionOrder.{IsShort, rank}
use Rattle.schubert_laws.proofs.FixedTails.{one_line_kept, inversions_kept, one_less_rising}
use Rattle.schubert_laws.proofs.Swaps.{swap_at, length-swap_at, get_swap_left, get_swap_right, greater_swap, among_get}
use Rattle.schubert_laws.proofs.MonkFromOne.{one_line_swap}
use Rattle.schubert_laws.proofs.Transition.{IsStep, get_swap_other, strict_get, rises_chain}
use Rattle.schubert_laws.proofs.TransitionFromOne.{step_of, kept_swap, covers_down_kept}
use Rattle.schubert_laws.proofs.LowerPermutations.{letter_kept, kept_whole, cover_falls, transition_exists}
use Rattle.schubert_laws.proofs.LowerPermutations.{transition_covers_lower}
use Rattle.schubert_laws.proofs.Members.{place_within, short_transition, short_cover}
use Rattle.schubert_laws.proofs.Ranks.{rank_lower}
use Rattle.stanley_expand.specs.GreaterBefore.{HasMoreBefore, greater_before}
use Rattle.stanley_expand.proofs.FirstPlaces.{dropped, rises_past}
use Rattle.std.proofs.Math.Seq.{take-set-lt}

pub greater_longer : (x p q : ℕ) (w : List ℕ) → p ≤ q → greater x (take p w) ≤ greater x (take q w)
greater_longer x zero q w h = omega arith
greater_longer x (suc p) zero w h = absurd (omega arith)
greater_longer x (suc p) (suc q) [] h = omega arith
greater_longer x (suc p) (suc q) (y ∷ w) h = let e = greater_longer x p q w (omega arith) in omega arith

greater_most : (x m : ℕ) (w : List ℕ) → greater x (take m w) ≤ m
greater_most x zero w = omega arith
greater_most x (suc m) [] = omega arith
greater_most x (suc m) (y ∷ w) =
    let e = greater_most x m w in
    elim (cases_lt x y) [
      | inl l ↦ let p = sym (cond_below {X = ℕ} x y 1 0 l) in omega arith
      | inr l ↦ let p = counts-not_less x y l in omega arith
    ]

-- if no entry at a place from k to q - 1 is greater than x, the number of entries greater than x before q is at most
-- that before k
pub greater_past : (x k q : ℕ) (w : List ℕ) → ((c : ℕ) → k ≤ c → c < q → get_or w c 0 ≤ x)
    → greater x (take q w) ≤ greater x (take k w)
greater_past x k zero w h = omega arith
greater_past x k (suc q) [] h = omega arith
greater_past x zero (suc q) (y ∷ w) h =
    let p = counts-not_less x y (h 0 (omega arith) (omega arith)) in
    let e = greater_past x zero q w (λ c l m. h (suc c) (omega arith) (omega arith)) in
    omega arith
greater_past x (suc k) (suc q) (y ∷ w) h =
    let e = greater_past x k q w (λ c l m. h (suc c) (omega arith) (omega arith)) in
    omega arith

-- ---- the numbers of entries before p that are greater than x, after the entries at a and b are exchanged

pub take_later : (p a b : ℕ) (w : List ℕ) → p ≤ a → p ≤ b → take p (swap_at a b w) ≡ take p w
take_later zero a b w h k = refl
take_later (suc p) zero b w h k = absurd (omega arith)
take_later (suc p) (suc a) zero w h k = absurd (omega arith)
take_later (suc p) (suc a) (suc b) [] h k = refl
take_later (suc p) (suc a) (suc b) (y ∷ w) h k = ap (λ v. y ∷ v) (take_later p a b w (omega arith) (omega arith))

take_swap : (p a b : ℕ) (w : List ℕ) → a < p → b < p → take p (swap_at a b w) ≡ swap_at a b (take p w)
take_swap zero a b w h k = absurd (omega arith)
take_swap (suc p) a b [] h k = refl
take_swap (suc p) zero zero (y ∷ w) h k = refl
take_swap (suc p) zero (suc b) (y ∷ w) h k =
    ap₂ ◌∷◌ (sym (get_or-take p w b y (omega arith))) (take-set-lt p w b y (omega arith))
take_swap (suc p) (suc a) zero (y ∷ w) h k =
    ap₂ ◌∷◌ (sym (get_or-take p w a y (omega arith))) (take-set-lt p w a y (omega arith))
take_swap (suc p) (suc a) (suc b) (y ∷ w) h k = ap (λ v. y ∷ v) (take_swap p a b w (omega arith) (omega arith))

-- exchanging two entries before place p does not change the number of entries before p that are greater than x
pub greater_both : (x p a b : ℕ) (w : List ℕ) → a < p → b < p → greater x (take p (swap_at a b w)) ≡ greater x (take p w)
greater_both x p a b w h k = ap (greater x) (take_swap p a b w h k) ∙ greater_swap x a b (take p w)

-- if the entry at a < p is exchanged with the entry at b ≥ p, the number of entries before p that are greater than x decreases by 1 if the entry at a
-- is greater than x, and increases by 1 if the entry at b is
pub greater_one : (x p a b : ℕ) (w : List ℕ) → a < p → p ≤ b → b < length w
    → greater x (take p (swap_at a b w)) + cond (nat_lt x (get_or w a 0)) 1 0
    ≡ greater x (take p w) + cond (nat_lt x (get_or w b 0)) 1 0
greater_one x zero a b w h k l = absurd (omega arith)
greater_one x (suc p) a b [] h k l = absurd (omega arith)
greater_one x (suc p) zero zero (y ∷ w) h k l = absurd (omega arith)
greater_one x (suc p) zero (suc b) (y ∷ w) h k l =
    let e = ap (greater x) (take-set-le p w b y (omega arith)) in
    let g = ap (λ z. cond {A = ℕ} (nat_lt x z) 1 0) (get_or_default w b y 0 (omega arith)) in
    omega arith
greater_one x (suc p) (suc a) zero (y ∷ w) h k l = absurd (omega arith)
greater_one x (suc p) (suc a) (suc b) (y ∷ w) h k l =
    let e = greater_one x p a b w (omega arith) (omega arith) (omega arith) in
    omega arith

-- ---- the exchanges of the transition rule, with places counted from 0

abbrev pub before : List ℕ → ℕ → ℕ
before w p = greater (get_or w p 0) (take p w)

-- there is a place p, counted from 0, whose letter has more than m greater letters before it
abbrev pub MoreBefore : ℕ → List ℕ → Type 0
MoreBefore m w = (p : ℕ) × (p < length w) × (m < before w p)

pub at_letter : (w : List ℕ) (p x : ℕ) → get_or w p 0 ≡ x → before w p ≡ greater x (take p w)
at_letter w p x e = ap (λ z. greater z (take p w)) e

up_there : (m j q : ℕ) (u : List ℕ) → j < q → q < length u → get_or u j 0 < get_or u q 0 → m ≤ before u q
    → MoreBefore m (swap_at j q u)
up_there m j q u h k l f =
    let e = length-swap_at j q u in
    let g = at_letter (swap_at j q u) q (get_or u j 0) (get_swap_right j q 0 u (omega arith) k) in
    let o = greater_one (get_or u j 0) q j q u h (omega arith) k in
    let a = counts-not_less (get_or u j 0) (get_or u j 0) (omega arith) in
    let b = sym (cond_below {X = ℕ} (get_or u j 0) (get_or u q 0) 1 0 l) in
    let c = greater_fewer (get_or u q 0) (get_or u j 0) (take q u) (omega arith) in
    (q, omega arith, omega arith)

up : (m j q p : ℕ) (u : List ℕ) → j < q → q < length u → get_or u j 0 < get_or u q 0 → p < length u → m < before u p
    → MoreBefore m (swap_at j q u)
up m j q p u h k l i f =
    let e = length-swap_at j q u in
    elim (cases_eq p q) [
      | inl d ↦ let g = ap (before u) d in up_there m j q u h k l (omega arith)
      | inr d ↦ elim (cases_eq p j) [
        | inl c ↦
            let g = at_letter (swap_at j q u) q (get_or u j 0) (get_swap_right j q 0 u (omega arith) k) in
            let a = greater_longer (get_or u j 0) j q (swap_at j q u) (omega arith) in
            let b = ap (greater (get_or u j 0)) (take_later j j q u (omega arith) (omega arith)) in
            let t = ap (before u) c in
            (q, omega arith, omega arith)
        | inr c ↦
            let g = at_letter (swap_at j q u) p (get_or u p 0) (get_swap_other j q p 0 u c d) in
            elim (cases_lt p j) [
              | inl a ↦
                  let b = ap (greater (get_or u p 0)) (take_later p j q u (omega arith) (omega arith)) in
                  (p, omega arith, omega arith)
              | inr a ↦ elim (cases_lt p q) [
                | inl b ↦
                    let o = greater_one (get_or u p 0) p j q u (omega arith) (omega arith) k in
                    let t = fewer_or_as_many (get_or u p 0) (get_or u j 0) (get_or u q 0) (omega arith) in
                    (p, omega arith, omega arith)
                | inr b ↦
                    let o = greater_both (get_or u p 0) p j q u (omega arith) (omega arith) in
                    (p, omega arith, omega arith)
              ]
            ]
      ]
    ]
  where
    fewer_or_as_many : (x a b : ℕ) → a ≤ b → cond {A = ℕ} (nat_lt x a) 1 0 ≤ cond {A = ℕ} (nat_lt x b) 1 0
    fewer_or_as_many x a b t = elim (cases_lt x a) [
      | inl y ↦ let r = sym (cond_below {X = ℕ} x a 1 0 y) in let s = sym (cond_below {X = ℕ} x b 1 0 (omega arith)) in omega arith
      | inr y ↦ let r = counts-not_less x a y in omega arith
    ]

-- let q be the last descent and b the place of the last letter smaller than that at q; if c is between q and b, the letter at c is smaller than that
-- at b
pub smaller_between : (q b c : ℕ) (w : List ℕ) → IsOneLine w → IsStep w q b → q < c → c < b → get_or w c 0 < get_or w b 0
smaller_between q b c w o s h k =
    let inside = s.inside in
    strict_get w c b o.once (omega arith) inside (λ z. omega arith) (rises_chain q c b w s.rises h (omega arith) inside)

down_there : (m q b : ℕ) (w : List ℕ) → IsOneLine w → IsStep w q b → m < before w b → m ≤ before (swap_at q b w) q
down_there m q b w o s f =
    let order = s.order in
    let inside = s.inside in
    let g = at_letter (swap_at q b w) q (get_or w b 0) (get_swap_left q b 0 w (omega arith) inside) in
    let a = ap (greater (get_or w b 0)) (take_later q q b w (omega arith) (omega arith)) in
    let c = greater_past (get_or w b 0) (suc q) b w (λ i l k. let r = smaller_between q b i w o s (omega arith) k in omega arith) in
    let d = one_longer (get_or w b 0) q w in
    omega arith
  where
    one_longer : (x k : ℕ) (v : List ℕ) → greater x (take (suc k) v) ≤ suc (greater x (take k v))
    one_longer x k [] = omega arith
    one_longer x zero (y ∷ v) = elim (cases_lt x y) [
      | inl l ↦ let p = sym (cond_below {X = ℕ} x y 1 0 l) in omega arith
      | inr l ↦ let p = counts-not_less x y l in omega arith
    ]
    one_longer x (suc k) (y ∷ v) = let e = one_longer x k v in omega arith

down : (m q b p : ℕ) (w : List ℕ) → IsOneLine w → IsStep w q b → p < length w → (p ≡ b → ⊥) → m < before w p
    → MoreBefore m (swap_at q b w)
down m q b p w o s i n f =
    let order = s.order in
    let inside = s.inside in
    let falls = s.falls in
    let e = length-swap_at q b w in
    elim (cases_eq p q) [
      | inl c ↦
          let g = at_letter (swap_at q b w) b (get_or w q 0) (get_swap_right q b 0 w (omega arith) inside) in
          let a = greater_longer (get_or w q 0) q b (swap_at q b w) (omega arith) in
          let d = ap (greater (get_or w q 0)) (take_later q q b w (omega arith) (omega arith)) in
          let t = ap (before w) c in
          (b, omega arith, omega arith)
      | inr c ↦
          let g = at_letter (swap_at q b w) p (get_or w p 0) (get_swap_other q b p 0 w c n) in
          elim (cases_lt p q) [
            | inl a ↦
                let d = ap (greater (get_or w p 0)) (take_later p q b w (omega arith) (omega arith)) in
                (p, omega arith, omega arith)
            | inr a ↦ elim (cases_lt p b) [
              | inl d ↦
                  let t = greater_one (get_or w p 0) p q b w (omega arith) (omega arith) inside in
                  let l = smaller_between q b p w o s (omega arith) d in
                  let x = sym (cond_below {X = ℕ} (get_or w p 0) (get_or w b 0) 1 0 l) in
                  let y = sym (cond_below {X = ℕ} (get_or w p 0) (get_or w q 0) 1 0 (omega arith)) in
                  (p, omega arith, omega arith)
              | inr d ↦
                  let t = greater_both (get_or w p 0) p q b w (omega arith) (omega arith) in
                  (p, omega arith, omega arith)
            ]
          ]
    ]

step_more : (m q b j : ℕ) (w : List ℕ) → IsOneLine w → IsStep w q b → j < q → get_or (swap_at q b w) j 0 < get_or (swap_at q b w) q 0
    → MoreBefore m w → MoreBefore m (swap_at j q (swap_at q b w))
step_more m q b j w o s h l more =
    let order = s.order in
    let inside = s.inside in
    let e = length-swap_at q b w in
    elim (cases_eq more.0 b) [
      | inl c ↦
          let g = ap (before w) c in
          let f = more.2 in
          up_there m j q (swap_at q b w) h (omega arith) l (down_there m q b w o s (omega arith))
      | inr c ↦
          let d = down m q b more.0 w o s more.1 c more.2 in
          up m j q d.0 (swap_at q b w) h (omega arith) l d.1 d.2
    ]

-- ---- the transition rule with places counted from 1, for permutations without fixed letters at the end

one_line_most : (w : List ℕ) (n c : ℕ) → IsOneLine w → length w ≤ n → get_or w c 0 ≤ n
one_line_most w n c o h = elim (cases_lt c (length w)) [
  | inl l ↦ let p = (o.letters (get_or w c 0) (among_get c 0 w l)).1 in omega arith
  | inr l ↦ let p = get_or_past w c 0 l in omega arith
]

pub from_letters : (m : ℕ) (w : List ℕ) → IsOneLine w → HasMoreBefore m w → MoreBefore m w
from_letters m w o (i, h, f) = elim (cases_lt (i - 1) (length w)) [
  | inl l ↦
      let e = ap (λ z. greater z (take (i - 1) w)) (get_or_default w (i - 1) i 0 l) in
      (i - 1, l, omega arith)
  | inr l ↦
      let e = ap (λ z. greater z (take (i - 1) w)) (get_or_past w (i - 1) i l) in
      let g = greater_past i 0 (i - 1) w (λ c k t. one_line_most w i c o (omega arith)) in
      absurd (omega arith)
]

letter_at : (w : List ℕ) (c : ℕ) → letter w (suc c) ≡ get_or w c (suc c)
letter_at w c = let e : suc c - 1 ≡ c = omega arith in ap (λ z. get_or w z (suc c)) e

pub to_letters : (m : ℕ) (w : List ℕ) → MoreBefore m w → HasMoreBefore m w
to_letters m w (p, i, f) =
    let e : suc p - 1 ≡ p = omega arith in
    let a = letter_at w p in
    let b = get_or_default w p (suc p) 0 i in
    let c : greater_before w (suc p) ≡ greater (get_or w p 0) (take p w) = ap₂ (λ x t. greater x (take t w)) (a ∙ b) e in
    (suc p, omega arith, omega arith)

to_kept : (m : ℕ) (v : List ℕ) → IsOneLine v → MoreBefore m v → HasMoreBefore m (kept v)
to_kept m v o (p, i, f) =
    let t = kept_whole v in
    let k = letter_kept v (suc p) (omega arith) in
    let g = get_or_default v p (suc p) 0 i in
    elim (cases_lt (length (kept v)) p) [
      | inr l ↦
          let a = ap (λ z. greater (get_or v p 0) (take p z)) t.1 in
          let b = ap (greater (get_or v p 0)) (take-append-le p (kept v) (after (length (kept v)) t.0) l) in
          let c = ap (λ z. greater z (take p (kept v))) (k ∙ letter_at v p ∙ g) in
          let y : suc p - 1 ≡ p = omega arith in
          let d : greater_before (kept v) (suc p) ≡ greater (letter (kept v) (suc p)) (take p (kept v)) =
          ap (λ z. greater (letter (kept v) (suc p)) (take z (kept v))) y in
          (suc p, omega arith, omega arith)
      | inl l ↦
          let a = get_or_past (kept v) p (suc p) (omega arith) in
          let la = letter_at v p in
          let lb = letter_at (kept v) p in
          let n = greater_past (get_or v p 0) 0 p v (λ c x y.
          let d = letter_kept v (suc c) (omega arith) in
          let e = get_or_default v c (suc c) 0 (omega arith) in
          let lc = letter_at v c in
          let r = kept_most c y (omega arith) in
          omega arith) in
          absurd (omega arith)
    ]
  where
    kept_most : (c : ℕ) → c < p → length (kept v) ≤ p → letter (kept v) (suc c) ≤ p
    kept_most c y n =
        let a = letter_at (kept v) c in
        elim (cases_lt c (length (kept v))) [
          | inl l ↦
              let g = get_or_default (kept v) c (suc c) 0 l in
              let h = one_line_most (kept v) (length (kept v)) c (one_line_kept v o) (omega arith) in
              omega arith
          | inr l ↦ let g = get_or_past (kept v) c (suc c) l in omega arith
        ]

covers_more : (m q b : ℕ) (w x : List ℕ) → IsOneLine w → IsStep w q b → MoreBefore m w
    → Among x (covers_down (suc q) (swap_at q b w)) → HasMoreBefore m x
covers_more m q b w x o s more mem =
    let order = s.order in
    let inside = s.inside in
    let u : List ℕ = swap_at q b w in
    let lu = length-swap_at q b w in
    let a = Among_from_select (λ (v : List ℕ). inversions v == inversions u + 1) x (map (λ i. times_swap i (suc q) u) (after 0 (suc q - 1))) mem in
    let c = Among_from_map (λ i. times_swap i (suc q) u) x (after 0 (suc q - 1)) a.0 in
    let g = after_among 0 (suc q - 1) c.0 c.1 in
    let g0 = g.0 in
    let g1 = g.1 in
    let i : suc (c.0 - 1) ≡ c.0 = omega arith in
    let e : x ≡ kept (swap_at (c.0 - 1) q (swap_at q b w)) =
    c.2 ∙ ap (λ t. times_swap t (suc q) (swap_at q b w)) (sym i) ∙ kept_swap (swap_at q b w) (c.0 - 1) q (omega arith) (omega arith) in
    let d = eqb-true (inversions x) (inversions (swap_at q b w) + 1) a.1 in
    let ly = length-swap_at (c.0 - 1) q (swap_at q b w) in
    let ou = one_line_swap q b w (omega arith) inside o in
    let oy = one_line_swap (c.0 - 1) q (swap_at q b w) (omega arith) (omega arith) ou in
    let rising = one_less_rising (swap_at q b w) (swap_at (c.0 - 1) q (swap_at q b w)) ou.once oy.once ly
    (sym (inversions_kept (swap_at (c.0 - 1) q (swap_at q b w)) oy) ∙ sym (ap inversions e) ∙ d) in
    let l = cover_falls (swap_at q b w) (c.0 - 1) q ou.once (omega arith) (omega arith) rising in
    subst (HasMoreBefore m) (sym e) (to_kept m (swap_at (c.0 - 1) q (swap_at q b w)) oy
    (step_more m q b (c.0 - 1) w o s (omega arith) l more))

-- if some letter of w has more than m greater letters before it, so has some letter of each cover x = v·t_ir, i < r, of v = w·t_rs in the transition
-- rule
pub more_on : (w : List ℕ) (r s m : ℕ) → IsOneLine w → IsTransition w r s → HasMoreBefore m w
    → (x : List ℕ) → Among x (covers_down r (times_swap r s w)) → HasMoreBefore m x
more_on w r s m o t more x mem =
    let p = step_of w r s o t in
    let g = p.4 in
    let order = g.order in
    let inside = g.inside in
    let ou = one_line_swap p.0 p.1 w (omega arith) inside o in
    let e : times_swap r s w ≡ kept (swap_at p.0 p.1 w) = ap₂ (λ i j. times_swap i j w) p.2 p.3 ∙ kept_swap w p.0 p.1 g.order g.inside in
    let c : covers_down r (times_swap r s w) ≡ covers_down (suc p.0) (swap_at p.0 p.1 w) = ap₂ covers_down p.2 e ∙ covers_down_kept (suc p.0) (swap_at p.0 p.1 w) ou in
    covers_more m p.0 p.1 w x o g (from_letters m w o more) (subst (Among x) c mem)

none_left : (m : ℕ) (w : List ℕ) → IsOneLine w → last_descent_place w ≤ m → HasMoreBefore m w → ⊥
none_left m w o h more =
    let f = from_letters m w o more in
    let f1 = f.1 in
    let f2 = f.2 in
    elim (cases_lt m f.0) [
      | inl l ↦
          let g = greater_past (get_or w f.0 0) m f.0 w (λ c i k. rising_from c f.0 i k f.1) in
          let n = greater_most (get_or w f.0 0) m w in
          omega arith
      | inr l ↦ let n = greater_most (get_or w f.0 0) f.0 w in omega arith
    ]
  where
    rising_from : (c p : ℕ) → m ≤ c → c < p → p < length w → get_or w c 0 ≤ get_or w p 0
    rising_from c zero i k l = absurd (omega arith)
    rising_from c (suc p) i k l =
        let s = rises_past m w h p (omega arith) l in
        elim (cases_eq c p) [
          | inl e ↦ let d = ap (λ t. get_or w t 0) e in omega arith
          | inr n ↦ let r = rising_from c p i (omega arith) (omega arith) in omega arith
        ]

sum_of_none : (m : ℕ) (xs : List (List ℕ)) → ((x : List ℕ) → Among x xs → Same (schubert_in x m) nothing) → Same (schuberts_in xs m) nothing
sum_of_none m [] h = Same_refl nothing
sum_of_none m (x ∷ xs) h =
    plus_respects (schubert_in x m) nothing (schuberts_in xs m) nothing (h x (inl refl)) (sum_of_none m xs (λ y i. h y (inr i)))

none_within : (k m n : ℕ) (u : List ℕ) → rank (suc n) u < k → IsShort n u → HasMoreBefore m u → Same (schubert_in u m) nothing
none_within zero m n u b i more = absurd (omega arith)
none_within (suc k) m n u b i more = by (last_descent u) refl (λ x c j. none_within k m n x c j)
  where
    by : (d : Option ℕ) → last_descent u ≡ d → ((x : List ℕ) → rank (suc n) x < k → IsShort n x → HasMoreBefore m x → Same (schubert_in x m) nothing)
        → Same (schubert_in u m) nothing
    by None e rec = absurd (none_left m u i.one_line (let q = ap (λ t. unwrap_or t 0) e in omega arith) more)
    by (Some r) e rec = elim (cases_lt m r) [
      | inr f ↦ absurd (none_left m u i.one_line (let q = ap (λ t. unwrap_or t 0) e in omega arith) more)
      | inl f ↦
          let t = transition_exists u r i.one_line e in
          let p = place_within u r t.0 i.one_line t.1 in
          let p1 = p.1 in
          let short = i.few in
          Same_trans (schubert_in u m) (schuberts_in (covers_down r (times_swap r t.0 u)) m) nothing (dropped u r t.0 m i.one_line t.1 f)
          (sum_of_none m (covers_down r (times_swap r t.0 u)) (λ x mem.
          let j = short_cover n r (times_swap r t.0 u) x (short_transition n u r t.0 i t.1) (omega arith) mem in
          let few = j.few in
          let l = rank_lower (suc n) x u j.one_line (omega arith) (transition_covers_lower u r t.0 i.one_line t.1 x mem) in
          rec x (omega arith) j (more_on u r t.0 m i.one_line t.1 more x mem)))
    ]

pub no_polynomial : (m : ℕ) (w : List ℕ) → IsOneLine w → HasMoreBefore m w → Same (schubert_in w m) nothing
no_polynomial m w o more = none_within (suc (rank (suc (length w)) w)) m (length w) w (omega arith) (record { one_line = o; few = omega arith }) more
