-- The invariant of the loop that expands S_w times the polynomial of a label by the transition rule: at the start, after one step and at the end. A
-- permutation is *waiting* if the rule has not yet replaced it; it has a list of terms by which its Schubert polynomial is multiplied. A *share* is a
-- function of a permutation and a label that no step increases; the *extent* of a label is a number that each step increases by at most 1.
use Rattle.std.proofs.Common.{◌≡◌, ℕ, ◌+◌, ◌*◌, ◌^◌, ◌<◌, ◌≤◌, List, [], ◌∷◌, ◌++◌, length, refl, sym, ap, ◌∙◌, subst, inl, inr, arith, ℤ, ◌+ℤ◌}
use Rattle.std.proofs.lemmas.Int.{ints}
use Rattle.sym_model.specs.PlaceOrders.{inversions}
use Rattle.sym_model.specs.Sum.{Among}
use Rattle.sym_model.proofs.Sums.{total_append, Among-append_left, Among-append_right}
use Rattle.linear_combinations.specs.Gains.{WholeTermsOf, over, HaveLabels}
use Rattle.transition_walk.specs.Todo.{load, AreInOrder}
use Rattle.transition_walk.specs.Transitions.{IsShort, weight}
use Rattle.transition_walk.specs.Growth.{GrowsBy, IsSingle, IsShare, SharesOverflow, WorksOff, OverflowsAt, all_of, limit_of, top_of}
use Rattle.transition_walk.specs.Waiting.{WithList, value_of, growth, IsWaiting, AreWaiting}
use Rattle.transition_walk.proofs.TodoLists.{load_append}
use Rattle.transition_walk.proofs.WaitingOrder.{order_rest, order_one}
use Rattle.transition_walk.proofs.Shares.{share, share_positive, ones_limit, limit_share}
use Rattle.sym_model.proofs.NumberSums.{sum_by-append}
use Rattle.linear_combinations.specs.Gains.{weighed}
use lib.IntN.{+ℤ_idr, +ℤ_idl}

module _ {L : Type 0} (product : ℕ → (List ℕ → ℤ) → List ℕ → L → ℤ) (images : ℕ → List ℕ → L → WholeTermsOf L) (extent : L → ℕ) (most : ℕ) (w : List ℕ) (label : L) where
  -- `value`: `product n φ w label` is the sum of c·product(n, φ, v, x) over the terms (x, c) of the lists of all waiting permutations v, plus the sum
  -- over the terms of `sum`, with v the identity. `grows`: the sum of |c|·share(v, x) over all these terms is at most share(w, label). The other two:
  -- the waiting lists are within their bounds (`IsWaiting`), and the waiting permutations are in order, so all different.
  pub record IsUnderWay (todo : List (WithList L)) (sum : WholeTermsOf L) : Type 0 where
    pub value : (n : ℕ) (φ : List ℕ → ℤ) → over (product n φ (1 ∷ [])) sum +ℤ value_of (product n φ) todo ≡ product n φ w label
    pub grows : (share : List ℕ → L → ℕ) → IsShare images extent (length w) (top_of w (extent label)) share → weighed (share (1 ∷ [])) sum + growth share todo ≤ share w label
    pub waiting : AreWaiting extent (length w) (top_of w (extent label)) todo
    pub ordered : AreInOrder todo

  pub start : (perm : List ℕ) (factor : WholeTermsOf L) (before todo : List (WithList L)) (sum : WholeTermsOf L) → perm ≡ w
      → ((φ : L → ℤ) → over φ factor ≡ φ label) → IsSingle label factor
      → before ≡ [] → todo ≡ before ++ (record { perm = perm; factor = factor }) ∷ [] → sum ≡ [] → IsUnderWay todo sum
  start perm factor before todo sum same one single none pushed empty =
      subst (λ (s : WholeTermsOf L). IsUnderWay todo s) (sym empty)
      (subst (λ (l : List (WithList L)). IsUnderWay l []) (sym (pushed ∙ ap (λ (b : List (WithList L)). b ++ first ∷ []) none))
      (record {
        value = λ n φ. +ℤ_idl (value_of (product n φ) (first ∷ [])) ∙ +ℤ_idr (over (product n φ perm) factor) ∙ one (product n φ perm) ∙ ap (λ v. product n φ v label) same;
        grows = λ share falls. let a = single.one (share perm) in let b = ap (λ p. share p label) same in omega arith;
        waiting = λ x m. elim m [
          | inl e ↦
              subst (IsWaiting extent (length w) (top_of w (extent label))) (sym e)
              (let l = ap length same in let i = ap inversions same in record {
                few = omega arith;
                inside = omega arith;
                labels = λ t j. subst (λ x. extent x + inversions perm ≤ top_of w (extent label)) (sym (single.labels t j)) (omega arith);
              })
          | inr k ↦ absurd k
        ];
        ordered = order_one [] (first ∷ []) first refl refl;
      }))
    where
      first : WithList L
      first = record { perm = perm; factor = factor }

  module _ (todo rest : List (WithList L)) (last : WithList L) (sum : WholeTermsOf L) (is : IsUnderWay todo sum) (popped : todo ≡ rest ++ last ∷ []) where
    pub popped_last : IsWaiting extent (length w) (top_of w (extent label)) last
    popped_last = is.waiting last (subst (Among last) (sym popped) (Among-append_right last rest (last ∷ []) (inl refl)))

    popped_rest : AreWaiting extent (length w) (top_of w (extent label)) rest
    popped_rest x m = is.waiting x (subst (Among x) (sym popped) (Among-append_left x rest (last ∷ []) m))

    pub popped_load : load todo ≡ load rest + weight last.perm
    popped_load = ap load popped ∙ load_append rest (last ∷ []) ∙ (let e : load rest + (weight last.perm + 0) ≡ load rest + weight last.perm = omega arith in e)

    popped_value : (n : ℕ) (φ : List ℕ → ℤ) → over (product n φ (1 ∷ [])) sum +ℤ value_of (product n φ) rest +ℤ over (product n φ last.perm) last.factor ≡ product n φ w label
    popped_value n φ =
        let a = is.value n φ in
        let b = ap (value_of (product n φ)) popped in
        let c = total_append (λ (x : WithList L). over (product n φ x.perm) x.factor) rest (last ∷ []) in
        let d = +ℤ_idr (over (product n φ last.perm) last.factor) in
        omega (arith, ints)

    popped_growth : (share : List ℕ → L → ℕ) → IsShare images extent (length w) (top_of w (extent label)) share → all_of sum rest last share ≤ share w label
    popped_growth share falls =
        let a = ap (growth share) popped in
        let b = sum_by-append (λ (x : WithList L). weighed (share x.perm) x.factor) rest (last ∷ []) in
        let c = is.grows share falls in
        omega arith

    module _ (high : top_of w (extent label) ≤ most + 1) where
      pub popped_few : 0 < inversions last.perm → length last.perm ≤ most
      popped_few some = let p = popped_last in let f = p.few in let i = p.inside in omega arith

      pub popped_labels : 0 < inversions last.perm → HaveLabels (λ x. extent x ≤ most) last.factor
      popped_labels some t m = let p = popped_last.labels t m in omega arith

      pub next : (sum2 : WholeTermsOf L) (todo2 : List (WithList L)) → WorksOff product images extent most sum rest last sum2 todo2 → IsUnderWay todo2 sum2
      next sum2 todo2 step = record {
        value = λ n φ. step.value n φ ∙ popped_value n φ;
        grows = λ share falls.
            let a = popped_growth share falls in let b = step.grows (length w) (top_of w (extent label)) share popped_last falls in omega arith;
        waiting = step.waiting (length w) (top_of w (extent label)) popped_last high popped_rest;
        ordered = step.ordered (order_rest todo rest last popped is.ordered);
      }

      pub overflow : OverflowsAt images extent most sum rest last → SharesOverflow images extent (length w) (top_of w (extent label)) (λ share. share w label)
      overflow o =
          let p = o (length w) (top_of w (extent label)) popped_last high in
          record {
            perm = p.perm;
            label = p.label;
            short = p.short;
            large = λ share falls some. let a = popped_growth share falls in let b = p.large share falls some in omega arith;
          }

  -- if `rest` is empty, then `todo` is empty too, and the sums in `IsUnderWay` have only the terms of `sum`
  module _ (todo rest : List (WithList L)) (sum : WholeTermsOf L) (is : IsUnderWay todo sum) (popped : todo ≡ rest ++ []) (none : rest ≡ []) where
    nothing : todo ≡ []
    nothing = popped ∙ ap (λ (l : List (WithList L)). l ++ []) none

    pub finished : (n : ℕ) (φ : List ℕ → ℤ) → over (product n φ (1 ∷ [])) sum ≡ product n φ w label
    finished n φ =
        sym (+ℤ_idr (over (product n φ (1 ∷ [])) sum))
        ∙ ap (λ (l : List (WithList L)). over (product n φ (1 ∷ [])) sum +ℤ value_of (product n φ) l) (sym nothing)
        ∙ is.value n φ

    pub shared : (share : List ℕ → L → ℕ) → IsShare images extent (length w) (top_of w (extent label)) share → weighed (share (1 ∷ [])) sum ≤ share w label
    shared share falls = let a = is.grows share falls in omega arith

  pub limited : (takes : ℕ → List ℕ → L → Type 0) (extra : ℕ) → top_of w (extent label) ≤ most + 1
      → ((k r : ℕ) (v : List ℕ) (label : L) → IsShort k v → 1 ≤ r → r ≤ k → r ≤ 255 → k ≤ most → extent label ≤ k → GrowsBy extent (takes r v) (images r v) k extra label)
      → SharesOverflow images extent (length w) (top_of w (extent label)) (λ share. share w label) → 2 ^ 127 ≤ limit_of w (extent label) extra
  limited takes extra high law o =
      let a = o.large (λ v x. share (length w) (top_of w (extent label) + extra) v)
      (limit_share images extent takes most extra (length w) (top_of w (extent label)) high law)
      (share_positive (length w) (top_of w (extent label) + extra) o.perm o.short (omega arith)) in
      let b = ap (λ k. k * (top_of w (extent label) + extra) ^ inversions w) (ones_limit w) in
      omega arith
