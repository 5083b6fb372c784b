-- The transition rule in m variables for a permutation that is increasing at the places 1 to m.
--     dropped       if r > m, S_w in m variables is the sum of the S_u over the covers u = v·t_ir, i < r, of v = w·t_rs, since x_r is 0
--     still_rising  if r > m, these covers u are also increasing at places 1 to m
--     leaf          the Schubert polynomial of a Grassmannian permutation in m variables is a Schur polynomial
use Rattle.std.proofs.Common.{◌≡◌, ℕ, zero, suc, ◌+◌, ◌-◌, ◌<◌, ◌≤◌, List, [], ◌∷◌, ◌++◌, ◌==◌, ◌&&◌, map, reverse, take, drop, length, get_or, replicate, refl, sym, ◌∙◌, ap, ap₂, subst, arith, inl, inr, cond, nat_lt, true, false, pos, eqb-true, Some, None, Option, unwrap_or, length-append}
use Rattle.std.proofs.Math.Seq.{take-suc}
use Rattle.std.proofs.lemmas.Int.{ints}
use Rattle.std.proofs.lemmas.Bool.{cases_lt, cases_eq, cond_below}
use Rattle.std.proofs.lemmas.List.{take-append-drop, get_or-drop, get_or-take, length-take, length-drop, reverse-append, get_or_default}
use Rattle.sym_model.specs.Sum.{Among, Once}
use Rattle.sym_model.specs.Polynomial.{Term, Same, coefficient, resize, nothing, plus, times, fits_in}
use Rattle.sym_model.specs.Partition.{after}
use Rattle.sym_model.specs.PlaceOrders.{places, smaller, inversions}
use Rattle.sym_model.specs.Schur.{schur}
use Rattle.sym_model.specs.BetaList.{rising_pairs, from_beta}
use Rattle.sym_model.specs.Permutation.{IsOneLine, IsTransition, letter, last_descent, last_descent_place, kept, times_swap, covers_down}
use Rattle.sym_model.specs.DividedDifference.{variable_in}
use Rattle.sym_model.specs.Schubert.{schubert_in, schuberts_in}
use Rattle.sym_model.proofs.Sums.{total_within, Among-append_left, Among_from_map, Among_from_select}
use Rattle.sym_model.proofs.AfterLists.{length_after, after_among}
use Rattle.sym_model.proofs.Numbers.{counts-not_less}
use Rattle.schubert_laws.proofs.Codes.{smaller_total, letters_in_places}
use Rattle.schubert_laws.proofs.Exchanges.{Rises}
use Rattle.schubert_laws.proofs.FixedTails.{one_line_added, schubert_added, inversions_kept, one_less_rising}
use Rattle.schubert_laws.proofs.Swaps.{swap_at, length-swap_at, get_swap_left}
use Rattle.schubert_laws.proofs.MonkFromOne.{one_line_swap}
use Rattle.schubert_laws.proofs.Transition.{IsStep, last_descent_is, strict_get, get_swap_other, between}
use Rattle.schubert_laws.proofs.TransitionFromOne.{step_of, kept_swap, covers_down_kept, transition}
use Rattle.schubert_laws.proofs.LowerPermutations.{letter_added, letter_kept, last_descent_added, cover_falls}
use Rattle.stanley_expand.specs.Grassmannian.{RisesTo, IsGrassmannian, front_beta, front_shape}
use Rattle.stanley_expand.proofs.SortingPaths.{IsFront, pred}
use Rattle.stanley_expand.proofs.Grassmannian.{AllRise, smaller_of_none, code_rising, grassmannian}

unit_past : (m j : ℕ) → m ≤ j → fits_in m (replicate j 0 ++ (1 ∷ [])) ≡ false
unit_past zero zero h = refl
unit_past zero (suc j) h = ap (λ b. true && b) (unit_past zero j (omega arith))
unit_past (suc m) zero h = absurd (omega arith)
unit_past (suc m) (suc j) h = unit_past m j (omega arith)

variable_past : (r m : ℕ) → m < r → variable_in r m ≡ nothing
variable_past r m h = ap (λ b. map (λ (t : Term). (resize m t.0, t.1)) (cond b ((replicate (r - 1) 0 ++ (1 ∷ []), pos 1) ∷ []) [])) (unit_past m (r - 1) (omega arith))

pub dropped : (w : List ℕ) (r s m : ℕ) → IsOneLine w → IsTransition w r s → m < r → Same (schubert_in w m) (schuberts_in (covers_down r (times_swap r s w)) m)
dropped w r s m o t h α =
    transition w r s m o t α
    ∙ ap (λ f. coefficient (plus (times f (schubert_in (times_swap r s w) m)) (schuberts_in (covers_down r (times_swap r s w)) m)) α) (variable_past r m h)

-- ---- the permutations of the transition rule are increasing at the first m places

-- w is strictly increasing at the places below m, counted from 0
abbrev RisesBelow : ℕ → List ℕ → Type 0
RisesBelow m w = (i : ℕ) → suc i < m → get_or w i 0 < get_or w (suc i) 0

rises_on : (m q b j : ℕ) (w : List ℕ) → IsOneLine w → IsStep w q b → m ≤ q → RisesBelow m w → j < q
    → rising_pairs (swap_at q b w) ≡ suc (rising_pairs (swap_at j q (swap_at q b w))) → RisesBelow m (swap_at j q (swap_at q b w))
rises_on m q b j w o s n r h e i k =
    let order = s.order in
    let inside = s.inside in
    let lu = length-swap_at q b w in
    let ou = one_line_swap q b w (omega arith) inside o in
    let u = λ (t : ℕ) (l : t < m). get_swap_other q b t 0 w (λ z. omega arith) (λ z. omega arith) in
    let ui = u i (omega arith) in
    let us = u (suc i) k in
    let ri = r i k in
    let up = cover_falls (swap_at q b w) j q ou.once h (omega arith) e in
    elim (cases_eq i j) [
      | inl d ↦
          let vi = ap (λ t. get_or (swap_at j q (swap_at q b w)) t 0) d ∙ get_swap_left j q 0 (swap_at q b w) (omega arith) (omega arith) in
          let vs = get_swap_other j q (suc i) 0 (swap_at q b w) (λ z. omega arith) (λ z. omega arith) in
          let uj = ap (λ t. get_or (swap_at q b w) t 0) d in
          elim (cases_lt (get_or (swap_at q b w) q 0) (get_or (swap_at q b w) (suc i) 0)) [
            | inl f ↦ omega arith
            | inr f ↦
                let g = strict_get (swap_at q b w) (suc i) q ou.once (omega arith) (omega arith) (λ z. omega arith) f in
                absurd (between j (suc i) q 0 (swap_at q b w) (omega arith) (omega arith) (omega arith) (omega arith) (omega arith) e)
          ]
      | inr d ↦
          let vi = get_swap_other j q i 0 (swap_at q b w) d (λ z. omega arith) in
          elim (cases_eq (suc i) j) [
            | inl c ↦
                let vs = ap (λ t. get_or (swap_at j q (swap_at q b w)) t 0) c ∙ get_swap_left j q 0 (swap_at q b w) (omega arith) (omega arith) in
                let uj = ap (λ t. get_or (swap_at q b w) t 0) c in
                omega arith
            | inr c ↦
                let vs = get_swap_other j q (suc i) 0 (swap_at q b w) c (λ z. omega arith) in
                omega arith
          ]
    ]

letter_get : (w : List ℕ) (i : ℕ) → i < length w → letter w (suc i) ≡ get_or w i 0
letter_get w i h = let e : suc i - 1 ≡ i = omega arith in ap (λ t. get_or w t (suc i)) e ∙ get_or_default w i (suc i) 0 h

from_letters : (m : ℕ) (w : List ℕ) → m ≤ length w → RisesTo m w → RisesBelow m w
from_letters m w h r i k =
    let a = letter_get w i (omega arith) in
    let b = letter_get w (suc i) (omega arith) in
    let c = r (suc i) (omega arith) k in
    let d : suc i + 1 ≡ suc (suc i) = omega arith in
    let e = ap (letter w) d in
    omega arith

to_letters : (m : ℕ) (w : List ℕ) → m ≤ length w → RisesBelow m w → RisesTo m w
to_letters m w h r zero f k = absurd (omega arith)
to_letters m w h r (suc i) f k =
    let a = letter_get w i (omega arith) in
    let b = letter_get w (suc i) (omega arith) in
    let c = r i k in
    let d : suc i + 1 ≡ suc (suc i) = omega arith in
    let e = ap (letter w) d in
    omega arith

pub rises_kept : (m : ℕ) (w : List ℕ) → RisesTo m w → RisesTo m (kept w)
rises_kept m w r i f k = let a = letter_kept w i f in let b = letter_kept w (i + 1) (omega arith) in let c = r i f k in omega arith

covers_rise : (m q b : ℕ) (w x : List ℕ) → IsOneLine w → IsStep w q b → m ≤ q → RisesTo m w → Among x (covers_down (suc q) (swap_at q b w)) → RisesTo m x
covers_rise m q b w x o s n r mem =
    let order = s.order in
    let inside = s.inside in
    let lu = length-swap_at q b w in
    let a = Among_from_select (λ (v : List ℕ). inversions v == inversions (swap_at q b w) + 1) x (map (λ i. times_swap i (suc q) (swap_at q b w)) (after 0 (suc q - 1))) mem in
    let c = Among_from_map (λ i. times_swap i (suc q) (swap_at q b w)) x (after 0 (suc q - 1)) a.0 in
    let g = after_among 0 (suc q - 1) c.0 c.1 in
    let g0 = g.0 in
    let g1 = g.1 in
    let i : suc (c.0 - 1) ≡ c.0 = omega arith in
    let e : x ≡ kept (swap_at (c.0 - 1) q (swap_at q b w)) =
    c.2 ∙ ap (λ t. times_swap t (suc q) (swap_at q b w)) (sym i) ∙ kept_swap (swap_at q b w) (c.0 - 1) q (omega arith) (omega arith) in
    let d = eqb-true (inversions x) (inversions (swap_at q b w) + 1) a.1 in
    let ly = length-swap_at (c.0 - 1) q (swap_at q b w) in
    let ou = one_line_swap q b w (omega arith) inside o in
    let oy = one_line_swap (c.0 - 1) q (swap_at q b w) (omega arith) (omega arith) ou in
    let down = one_less_rising (swap_at q b w) (swap_at (c.0 - 1) q (swap_at q b w)) ou.once oy.once ly (sym (inversions_kept (swap_at (c.0 - 1) q (swap_at q b w)) oy) ∙ sym (ap inversions e) ∙ d) in
    subst (RisesTo m) (sym e) (rises_kept m (swap_at (c.0 - 1) q (swap_at q b w)) (to_letters m (swap_at (c.0 - 1) q (swap_at q b w)) (omega arith)
    (rises_on m q b (c.0 - 1) w o s n (from_letters m w (omega arith) r) (omega arith) down)))

pub still_rising : (w : List ℕ) (r s m : ℕ) → IsOneLine w → IsTransition w r s → m < r → RisesTo m w → (x : List ℕ) → Among x (covers_down r (times_swap r s w)) → RisesTo m x
still_rising w r s m o t h f x mem =
    let p = step_of w r s o t in
    let g = p.4 in
    let order = g.order in
    let inside = g.inside in
    let p2 = p.2 in
    let ou = one_line_swap p.0 p.1 w (omega arith) inside o in
    let e : times_swap r s w ≡ kept (swap_at p.0 p.1 w) = ap₂ (λ i j. times_swap i j w) p.2 p.3 ∙ kept_swap w p.0 p.1 g.order g.inside in
    let c : covers_down r (times_swap r s w) ≡ covers_down (suc p.0) (swap_at p.0 p.1 w) = ap₂ covers_down p.2 e ∙ covers_down_kept (suc p.0) (swap_at p.0 p.1 w) ou in
    covers_rise m p.0 p.1 w x o g (omega arith) f (subst (Among x) c mem)

-- ---- permutations without a descent after place m

rises_at : (k : ℕ) (w : List ℕ) → suc k < length w → get_or w k 0 < get_or w (suc k) 0 → Rises k w
rises_at k [] h l = absurd (omega arith)
rises_at zero (a ∷ []) h l = absurd (omega arith)
rises_at zero (a ∷ b ∷ w) h l = l
rises_at (suc k) (a ∷ w) h l = rises_at k w (omega arith) l

smaller_after : (x a n : ℕ) → a < x → x ≤ a + n → suc (smaller x (after a n) + a) ≡ x
smaller_after x a zero h l = absurd (omega arith)
smaller_after x a (suc n) h l = elim (cases_lt (a + 1) x) [
  | inl f ↦ let c = sym (cond_below {X = ℕ} (a + 1) x 1 0 f) in let e = smaller_after x (a + 1) n f (omega arith) in omega arith
  | inr f ↦
      let c = counts-not_less (a + 1) x f in
      let e = smaller_of_none x (after (a + 1) n) (λ y m. let g = after_among (a + 1) n y m in let g0 = g.0 in omega arith) in
      omega arith
]

smaller_one_line : (x : ℕ) (v : List ℕ) → IsOneLine v → 1 ≤ x → x ≤ length v → smaller x v ≡ x - 1
smaller_one_line x v o h l =
    let e = total_within (λ b. pos (cond (nat_lt b x) 1 0)) (places (length v)) v o.once (letters_in_places v o) (sym (length_after 0 (length v))) in
    let p = smaller_total x v in
    let q = smaller_total x (places (length v)) in
    let c = smaller_after x 0 (length v) (omega arith) (omega arith) in
    omega (arith, ints)

-- if the last descent is at most m, then at the places from m on, counted from 0, no letter is greater than the next
pub rises_past : (m : ℕ) (v : List ℕ) → last_descent_place v ≤ m → (b : ℕ) → m ≤ b → suc b < length v → get_or v b 0 ≤ get_or v (suc b) 0
rises_past m v h b l k = by (last_descent v) refl
  where
    by : (d : Option ℕ) → last_descent v ≡ d → get_or v b 0 ≤ get_or v (suc b) 0
    by None e = last_descent_is v None e b k
    by (Some r) e =
        let f = last_descent_is v (Some r) e in
        let f1 = f.1 in
        let p = ap (λ t. unwrap_or t 0) e in
        f.4 b (omega arith) k

front_of : (m : ℕ) (v : List ℕ) → IsOneLine v → last_descent_place v ≤ m → IsFront (take m v) (drop m v)
front_of m v o h = record {
  once = subst Once (sym (take-append-drop m v)) o.once;
  counts = λ x i. (o.letters x (inside x i)).0;
  smaller_ones = λ x i.
      let p = o.letters x (inside x i) in
      ap (smaller x) (take-append-drop m v) ∙ smaller_one_line x v o p.0 p.1;
  rest = code_rising (drop m v) (λ k l.
      let ld = length-drop m v in
      let a = get_or-drop m v k 0 in
      let b = get_or-drop m v (suc k) 0 in
      let s : m + suc k ≡ suc (m + k) = omega arith in
      let c = ap (λ t. get_or v t 0) s in
      let g = rises_past m v h (m + k) (omega arith) (omega arith) in
      let i = strict_get v (m + k) (suc (m + k)) o.once (omega arith) (omega arith) (λ z. omega arith) g in
      rises_at k (drop m v) l (omega arith));
}
  where
    inside : (x : ℕ) → Among x (take m v) → Among x v
    inside x i = subst (Among x) (take-append-drop m v) (Among-append_left x (take m v) (drop m v) i)

all_rise : (m : ℕ) (v : List ℕ) → m ≤ length v → RisesBelow m v → AllRise (take m v)
all_rise m v h r k l =
    let lt = length-take m v in
    let a = get_or-take m v k 0 (omega arith) in
    let b = get_or-take m v (suc k) 0 (omega arith) in
    let c = r k (omega arith) in
    rises_at k (take m v) l (omega arith)

front_beta_is : (m : ℕ) (v : List ℕ) → m ≤ length v → front_beta m v ≡ map pred (reverse (take m v))
front_beta_is zero v h = refl
front_beta_is (suc m) v h =
    ap₂ ◌∷◌ (ap (λ a. a - 1) (letter_get v m (omega arith))) (front_beta_is m v (omega arith))
    ∙ ap (map pred) (sym (reverse-append (take m v) (get_or v m 0 ∷ [])) ∙ ap reverse (sym (take-suc v m 0 (omega arith))))

front_beta_added : (m k : ℕ) (u : List ℕ) → front_beta m (u ++ after (length u) k) ≡ front_beta m u
front_beta_added zero k u = refl
front_beta_added (suc m) k u = ap₂ (λ a l. (a - 1) ∷ l) (letter_added k u (suc m) (omega arith)) (front_beta_added m k u)

pub leaf : (m : ℕ) (u : List ℕ) → IsGrassmannian m u → Same (schubert_in u m) (schur (front_shape m u) m)
leaf m u g =
    let o = g.one_line in
    let r = g.rises in
    let h = g.last in
    let v : List ℕ = u ++ after (length u) (m - length u) in
    let ov = one_line_added (m - length u) u o in
    let la = length-append u (after (length u) (m - length u)) in
    let lb = length_after (length u) (m - length u) in
    let lt = length-take m (u ++ after (length u) (m - length u)) in
    let e : length (take m (u ++ after (length u) (m - length u))) ≡ m = omega arith in
    let d : last_descent_place (u ++ after (length u) (m - length u)) ≤ m = let p = ap (λ t. unwrap_or t 0) (last_descent_added (m - length u) u o) in omega arith in
    let rv : RisesTo m (u ++ after (length u) (m - length u)) = λ i f k.
    let a = letter_added (m - length u) u i f in
    let b = letter_added (m - length u) u (i + 1) (omega arith) in
    let c = r i f k in
    omega arith in
    let is = grassmannian (take m (u ++ after (length u) (m - length u))) (drop m (u ++ after (length u) (m - length u))) (front_of m (u ++ after (length u) (m - length u)) ov d)
    (all_rise m (u ++ after (length u) (m - length u)) (omega arith) (from_letters m (u ++ after (length u) (m - length u)) (omega arith) rv)) in
    λ α.
    sym (schubert_added (m - length u) u m o α)
    ∙ ap₂ (λ x n. coefficient (schubert_in x n) α) (sym (take-append-drop m (u ++ after (length u) (m - length u)))) (sym e)
    ∙ is α
    ∙ ap₂ (λ b n. coefficient (schur (from_beta b) n) α) (sym (front_beta_is m (u ++ after (length u) (m - length u)) (omega arith)) ∙ front_beta_added m (m - length u) u) e
