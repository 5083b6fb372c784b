-- The entries by which the transition rule replaces a waiting permutation w (`stepped` of specs/Waiting). A permutation is *waiting* if the rule has
-- not yet replaced it; its entry has the list of terms by which its Schubert polynomial is multiplied, and the result is the product of the entry. A
-- *share* is a function of a permutation and a label that no step increases; the *extent* of a label is a number that each step increases by at most
-- 1.
--     step_value        the products of these entries add up to the product of the entry of w
--     step_growth       the shares of the terms of these entries add up to at most the shares of the terms of the entry of w
--     step_waiting      these entries have the bounds of the entry of w for letters and extents (`IsWaiting`)
--     step_load         the weights of the permutations of these entries add up to less than the weight of w
use Rattle.std.proofs.Common.{◌≡◌, ℕ, ◌+◌, ◌-◌, ◌*◌, ◌^◌, ◌<◌, ◌≤◌, Bool, true, List, [], ◌∷◌, ◌++◌, length, sym, ap, ◌∙◌, subst, inl, inr, arith, ℤ, ◌+ℤ◌, ◌*ℤ◌}
use Rattle.std.proofs.lemmas.Int.{ints}
use Rattle.std.proofs.lemmas.Bool.{and_parts}
use Rattle.fraction_laws.specs.Fractions.{whole}
use Rattle.sym_model.specs.Permutation.{IsOneLine, IsTransition, times_swap, covers_down}
use Rattle.sym_model.specs.PlaceOrders.{inversions}
use Rattle.sym_model.specs.Sum.{total, Among}
use Rattle.sym_model.proofs.Ring.{distributes_left}
use Rattle.sym_model.proofs.Sums.{total_append, total_among, total_ext, total_add, total_exchange, total_scale, Among_from_append}
use Rattle.schubert_laws.proofs.LowerPermutations.{transition_inversions, transition_lowers, transition_covers_lower}
use Rattle.schubert_laws.proofs.Members.{short_cover, short_transition, place_within, cover_inversions}
use Rattle.schubert_laws.proofs.Ranks.{rank_lower}
use Rattle.linear_combinations.specs.Entries.{IsCombination}
use Rattle.linear_combinations.specs.Gains.{WholeTermsOf, over, replaced, HaveLabels}
use Rattle.linear_combinations.proofs.Gains.{replaced_over}
use Rattle.linear_combinations.proofs.Masses.{labels_replaced}
use Rattle.linear_combinations.proofs.Totals.{term-among}
use Rattle.transition_walk.specs.Todo.{load}
use Rattle.transition_walk.specs.Transitions.{IsShort, rank, weight}
use Rattle.transition_walk.proofs.Covers.{count_covers_down}
use Rattle.transition_walk.proofs.Ranks.{pow_below, weights_less}
use Rattle.transition_walk.proofs.TodoLists.{load_append}
use Rattle.transition_walk.specs.Growth.{GrowsBy, IsShare}
use Rattle.transition_walk.specs.Waiting.{WithList, value_of, growth, IsWaiting, AreWaiting, each_waits, stepped}
use Rattle.transition_walk.proofs.JoinedLists.{each_value, each_growth, each_load, each_among}
use native.Mathlib.Nat.{mul-le-mul_left}
use Rattle.sym_model.specs.Sum.{sum_by}
use Rattle.sym_model.proofs.NumberSums.{sum_by-append, sum_by-most}
use Rattle.linear_combinations.specs.Gains.{weighed}
use Rattle.linear_combinations.proofs.Weighed.{weighed_add, weighed_replaced, weighed_within}
use lib.IntN.{+ℤ_idr}

pub are_labels : {L : Type 0} {eq : L → L → Bool} {is_label : L → Bool} (list : WholeTermsOf L) → IsCombination eq is_label whole list → HaveLabels (λ label. is_label label ≡ true) list
are_labels {L} {eq} {is_label} list is t m = (and_parts _ (is_label t.0) (term-among is_label whole list is.proper t m)).1

pub no_labels : {L : Type 0} (P : L → Type 0) (list : WholeTermsOf L) → list ≡ [] → HaveLabels P list
no_labels {L} P list empty = subst (λ (l : WholeTermsOf L). HaveLabels P l) (sym empty) (λ t m. absurd m)

over_sum : {L : Type 0} (f : L → ℤ) (g : List ℕ → L → ℤ) (xs : List (List ℕ)) (terms : WholeTermsOf L)
    → over (λ e. f e +ℤ total (λ (x : List ℕ). g x e) xs) terms ≡ over f terms +ℤ total (λ (x : List ℕ). over (g x) terms) xs
over_sum {L} f g xs terms =
    total_ext (λ (t : L × ℤ). t.1 *ℤ (f t.0 +ℤ total (λ (x : List ℕ). g x t.0) xs)) (λ (t : L × ℤ). t.1 *ℤ f t.0 +ℤ total (λ (x : List ℕ). t.1 *ℤ g x t.0) xs)
    (λ t. distributes_left t.1 (f t.0) (total (λ (x : List ℕ). g x t.0) xs) ∙ ap (λ z. t.1 *ℤ f t.0 +ℤ z) (sym (total_scale t.1 (λ (x : List ℕ). g x t.0) xs))) terms
    ∙ total_add (λ (t : L × ℤ). t.1 *ℤ f t.0) (λ (t : L × ℤ). total (λ (x : List ℕ). t.1 *ℤ g x t.0) xs) terms
    ∙ ap (λ z. over f terms +ℤ z) (total_exchange (λ (t : L × ℤ) (x : List ℕ). t.1 *ℤ g x t.0) terms xs)

module _ {L : Type 0} (image : List ℕ → L → WholeTermsOf L) (r s : ℕ) (w : WithList L) where
  pub step_value : (φ : List ℕ → L → ℤ)
      → ((t : L × ℤ) → Among t w.factor → φ w.perm t.0
      ≡ over (φ (times_swap r s w.perm)) (image (times_swap r s w.perm) t.0) +ℤ total (λ (x : List ℕ). φ x t.0) (covers_down r (times_swap r s w.perm)))
      → value_of φ (stepped image r s w) ≡ over (φ w.perm) w.factor
  step_value φ law =
      let v = times_swap r s w.perm in
      let a = total_append (λ (x : WithList L). over (φ x.perm) x.factor) (each_waits w.factor (covers_down r (times_swap r s w.perm)))
      ((record { perm = times_swap r s w.perm; factor = replaced (image (times_swap r s w.perm)) w.factor }) ∷ []) in
      let b = each_value φ w.factor (covers_down r (times_swap r s w.perm)) in
      let c = replaced_over (image (times_swap r s w.perm)) (φ (times_swap r s w.perm)) w.factor in
      let d = over_sum (λ e. over (φ (times_swap r s w.perm)) (image (times_swap r s w.perm) e)) φ (covers_down r (times_swap r s w.perm)) w.factor in
      let e = total_among (λ (t : L × ℤ). t.1 *ℤ φ w.perm t.0)
      (λ (t : L × ℤ). t.1 *ℤ (over (φ (times_swap r s w.perm)) (image (times_swap r s w.perm) t.0) +ℤ total (λ (x : List ℕ). φ x t.0) (covers_down r (times_swap r s w.perm)))) w.factor
      (λ t m. ap (λ z. t.1 *ℤ z) (law t m)) in
      let f = +ℤ_idr (over (φ (times_swap r s w.perm)) (replaced (image (times_swap r s w.perm)) w.factor)) in
      omega (arith, ints)

  -- ---- bounds of the permutations in the list `stepped`, by which the transition rule at r and s replaces w

  module _ (extent : L → ℕ) (n top : ℕ) (is : IsWaiting extent n top w) (one_line : IsOneLine w.perm) (t : IsTransition w.perm r s) where
    short : IsShort n w.perm
    short = record { one_line = one_line; few = is.few }

    -- w·t_rs has one inversion less than w, at most n letters, and 1 ≤ r < n
    record IsLowered : Type 0 where
      lower : IsShort n (times_swap r s w.perm)
      inverted : inversions w.perm ≡ inversions (times_swap r s w.perm) + 1
      first : 1 ≤ r
      place : r < n

    lowered : IsLowered
    lowered =
        let place = place_within w.perm r s one_line t in
        let p1 = place.1 in
        let few = is.few in
        record {
          lower = short_transition n w.perm r s short t;
          inverted = transition_inversions w.perm r s one_line t;
          first = place.0;
          place = omega arith;
        }

    pub step_short : (x : WithList L) → Among x (stepped image r s w) → IsShort n x.perm
    step_short x m = elim (Among_from_append x (each_waits w.factor (covers_down r (times_swap r s w.perm))) ((record { perm = times_swap r s w.perm; factor = replaced (image (times_swap r s w.perm)) w.factor }) ∷ []) m) [
      | inl l ↦
          each_among (λ (y : WithList L). IsShort n y.perm) w.factor (covers_down r (times_swap r s w.perm))
          (λ y i. let k = lowered in let f = k.place in short_cover n r (times_swap r s w.perm) y k.lower (omega arith) i) x l
      | inr q ↦ elim q [
        | inl e ↦ subst (λ (y : WithList L). IsShort n y.perm) (sym e) lowered.lower
        | inr k ↦ absurd k
      ]
    ]

    pub step_growth : (images : ℕ → List ℕ → L → WholeTermsOf L) → images r ≡ image → (share : List ℕ → L → ℕ) → IsShare images extent n top share → length w.perm ≤ 255
        → growth share (stepped image r s w) ≤ weighed (share w.perm) w.factor
    step_growth images at_r share falls small =
        let a = sum_by-append (λ (x : WithList L). weighed (share x.perm) x.factor) (each_waits w.factor (covers_down r (times_swap r s w.perm)))
        ((record { perm = times_swap r s w.perm; factor = replaced (image (times_swap r s w.perm)) w.factor }) ∷ []) in
        let b = each_growth share w.factor (covers_down r (times_swap r s w.perm)) in
        let c = weighed_replaced (image (times_swap r s w.perm)) (share (times_swap r s w.perm)) w.factor in
        let d = weighed_add (λ e. weighed (share (times_swap r s w.perm)) (image (times_swap r s w.perm) e))
        (λ e. sum_by (λ (x : List ℕ). share x e) (covers_down r (times_swap r s w.perm))) w.factor in
        let f = weighed_within (λ e. weighed (share (times_swap r s w.perm)) (image (times_swap r s w.perm) e) + sum_by (λ (x : List ℕ). share x e) (covers_down r (times_swap r s w.perm)))
        (share w.perm) w.factor
        (λ u m. subst (λ (i : List ℕ → L → WholeTermsOf L). weighed (share (times_swap r s w.perm)) (i (times_swap r s w.perm) u.0) + sum_by (λ (x : List ℕ). share x u.0) (covers_down r (times_swap r s w.perm)) ≤ share w.perm u.0)
        at_r (falls.falls r s w.perm u.0 short small t is.inside (is.labels u m))) in
        omega arith

    pub cover_waits : (x : List ℕ) → Among x (covers_down r (times_swap r s w.perm)) → IsWaiting extent n top (record { perm = x; factor = w.factor })
    cover_waits x m =
        let k = lowered in
        let i = cover_inversions r (times_swap r s w.perm) x m in
        let j = k.inverted in
        let f = k.place in
        let g = is.inside in
        let h = short_cover n r (times_swap r s w.perm) x k.lower (omega arith) m in
        record {
          few = h.few;
          inside = omega arith;
          labels = λ u q. let l = is.labels u q in omega arith;
        }

    module _ (most extra : ℕ) (high : top ≤ most + 1) (small : length w.perm ≤ 255) (takes : List ℕ → L → Type 0)
        (law : (k : ℕ) (v : List ℕ) (label : L) → IsShort k v → 1 ≤ r → r ≤ k → r ≤ 255 → k ≤ most → extent label ≤ k → GrowsBy extent (takes v) (image v) k extra label) where
      grown : (u : L × ℤ) → Among u w.factor → GrowsBy extent (takes (times_swap r s w.perm)) (image (times_swap r s w.perm)) (top - inversions w.perm) extra u.0
      grown u m =
          let k = lowered in
          let lower = k.lower in
          let few = lower.few in
          let inverted = k.inverted in
          let place = k.place in
          let inside = is.inside in
          let l = is.labels u m in
          let p = place_within w.perm r s one_line t in
          let p1 = p.1 in
          law (top - inversions w.perm) (times_swap r s w.perm) u.0 (record { one_line = lower.one_line; few = omega arith }) k.first (omega arith) (omega arith) (omega arith) (omega arith)

      pub step_waiting : AreWaiting extent n top (stepped image r s w)
      step_waiting x m = elim (Among_from_append x (each_waits w.factor (covers_down r (times_swap r s w.perm))) ((record { perm = times_swap r s w.perm; factor = replaced (image (times_swap r s w.perm)) w.factor }) ∷ []) m) [
        | inl l ↦ each_among (IsWaiting extent n top) w.factor (covers_down r (times_swap r s w.perm)) cover_waits x l
        | inr q ↦ elim q [
          | inl e ↦
              subst (IsWaiting extent n top) (sym e)
              (let k = lowered in
              let lower = k.lower in
              let inverted = k.inverted in
              let inside = is.inside in
              record {
                few = lower.few;
                inside = omega arith;
                labels = labels_replaced (image (times_swap r s w.perm)) (λ label. extent label + inversions (times_swap r s w.perm) ≤ top) w.factor
                    (λ u i z j. let g = (grown u i).labels z j in omega arith);
              })
          | inr k ↦ absurd k
        ]
      ]

-- if w has at most n ≤ 255 letters, the permutations that replace it in the transition rule together weigh less than w does
pub covers_weigh_less : (n r s : ℕ) (w : List ℕ) → n ≤ 255 → IsShort n w → IsTransition w r s → sum_by weight (covers_down r (times_swap r s w)) + weight (times_swap r s w) < weight w
covers_weigh_less n r s w small short t =
    let o = short.one_line in
    let few = short.few in
    let place = place_within w r s o t in
    let p0 = place.0 in
    let p1 = place.1 in
    let v = short_transition n w r s short t in
    let vf = v.few in
    let less : rank 256 (times_swap r s w) < rank 256 w = rank_lower 256 (times_swap r s w) w v.one_line (omega arith) (transition_lowers w r s o t) in
    let first = pow_below (rank 256 (times_swap r s w)) (rank 256 w) less in
    let covers = sum_by-most weight (covers_down r (times_swap r s w)) (256 ^ (rank 256 w - 1)) (λ x m.
    let xs = short_cover n r (times_swap r s w) x v (omega arith) m in
    let xf = xs.few in
    pow_below (rank 256 x) (rank 256 w) (rank_lower 256 x w xs.one_line (omega arith) (transition_covers_lower w r s o t x m))) in
    let count = count_covers_down r (times_swap r s w) in
    let more = mul-le-mul_left (256 ^ (rank 256 w - 1)) count in
    let all = weights_less (rank 256 w) r (omega arith) p0 (omega arith) in
    by (length (covers_down r (times_swap r s w))) (r - 1) (256 ^ (rank 256 w - 1)) (sum_by weight (covers_down r (times_swap r s w))) (weight (times_swap r s w)) (weight w) covers more first all
  where
    by : (a b p c d e : ℕ) → c ≤ a * p → p * a ≤ p * b → d ≤ p → b * p + p < e → c + d < e
    by a b p c d e h k l m =
        let f : p * a ≡ a * p = omega arith in
        let g : p * b ≡ b * p = omega arith in
        omega arith

pub step_load : {L : Type 0} (image : List ℕ → L → WholeTermsOf L) (r s : ℕ) (w : WithList L) → IsShort 255 w.perm → IsTransition w.perm r s → load (stepped image r s w) < weight w.perm
step_load {L} image r s w short t =
    let a = load_append (each_waits w.factor (covers_down r (times_swap r s w.perm))) ((record { perm = times_swap r s w.perm; factor = replaced (image (times_swap r s w.perm)) w.factor }) ∷ []) in
    let b = each_load w.factor (covers_down r (times_swap r s w.perm)) in
    let c = covers_weigh_less 255 r s w.perm (omega arith) short t in
    omega arith

-- let `lower` be v = w·t_rs, let `down` list the covers v·t_ir with i < r, and let `factor` be the factor that `made` gives for v. Then `stepped`
-- consists of one entry for each cover in `down`, with the list of w, and of an entry for v, with the image of the list of w under `factor`
pub stepped_as : {L T : Type 0} (image : T → L → WholeTermsOf L) (made : List ℕ → T) (r s : ℕ) (w : WithList L) (down : List (List ℕ)) (lower : List ℕ) (factor : T)
    → lower ≡ times_swap r s w.perm → down ≡ covers_down r lower → factor ≡ made lower
    → each_waits w.factor down ++ (record { perm = lower; factor = replaced (image factor) w.factor }) ∷ [] ≡ stepped (λ v. image (made v)) r s w
stepped_as {L} {T} image made r s w down lower factor lower_is down_is factor_is =
    ap (λ (xs : List (List ℕ)). each_waits w.factor xs ++ (record { perm = lower; factor = replaced (image factor) w.factor }) ∷ []) down_is
    ∙ ap (λ (t : T). each_waits w.factor (covers_down r lower) ++ (record { perm = lower; factor = replaced (image t) w.factor }) ∷ []) factor_is
    ∙ ap (λ (v : List ℕ). each_waits w.factor (covers_down r v) ++ (record { perm = v; factor = replaced (image (made v)) w.factor }) ∷ []) lower_is
