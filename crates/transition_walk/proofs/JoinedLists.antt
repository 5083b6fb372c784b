-- Terms added to the lists of waiting permutations (`Joins` of specs/Waiting). A permutation is *waiting* if the transition rule has not yet replaced
-- it; an *entry* is such a permutation with the list of terms by which its Schubert polynomial is multiplied.
--     joined, joined_overflow                  one list of terms added at one permutation
--     joins_none, joins_both, overflows_both   no entry added, and two lists of entries added one after the other
--     joins_swapped, overflows_swapped         two lists of entries added in the other order
--     each_append, each_value, each_growth     the same list of terms added at each of several permutations
use Rattle.std.proofs.Common.{◌≡◌, ℕ, ◌+◌, ◌<◌, ◌≤◌, Bool, true, List, [], ◌∷◌, ◌++◌, length, get_or, set, refl, sym, ap, ◌∙◌, subst, inl, inr, arith, ℤ, ◌+ℤ◌}
use Rattle.std.specs.Cmp.{IsEquivalence}
use Rattle.std.proofs.lemmas.Int.{ints}
use Rattle.fraction_laws.specs.Fractions.{whole}
use Rattle.sym_model.specs.PlaceOrders.{inversions}
use Rattle.sym_model.specs.Sum.{total, Among}
use Rattle.sym_model.proofs.Sums.{total_append, Among-append_left, Among-append_right, Among-get_or, Among_from_append}
use Rattle.linear_combinations.specs.Entries.{IsCombination}
use Rattle.linear_combinations.specs.Gains.{WholeTermsOf, over, HaveLabels, Gains, Overflows}
use Rattle.linear_combinations.proofs.Masses.{labels_gained}
use Rattle.transition_walk.specs.Todo.{load, MayGain, AreInOrder}
use Rattle.transition_walk.specs.Transitions.{weight}
use Rattle.transition_walk.proofs.TodoLists.{total_gain, among_gain, total_set, load_gain, load_set, load_append}
use Rattle.transition_walk.proofs.WaitingOrder.{order_set}
use Rattle.transition_walk.proofs.Weights.{sum_by-gain}
use Rattle.transition_walk.specs.Waiting.{WithList, value_of, growth, IsWaiting, each_waits, Joins, WaitingOverflows}
use Rattle.sym_model.specs.Sum.{sum_by}
use Rattle.sym_model.proofs.NumberSums.{sum_by-set, sum_by-at, sum_by-append}
use Rattle.linear_combinations.specs.Gains.{weighed}
use Rattle.linear_combinations.proofs.Weighed.{weighed_zero, weighed_add, gains_weighed, overflow_weighed}
use lib.IntN.{+ℤ_idr}
use Rattle.schubert_laws.proofs.Swaps.{among_set}

-- `entry w factor`: the entry that has the permutation of w and the list `factor`
abbrev pub entry : {L : Type 0} → WithList L → WholeTermsOf L → WithList L
entry w factor = record { perm = w.perm; factor = factor }

module _ {L : Type 0} (old mid : List (WithList L)) (perm : List ℕ) (none : WholeTermsOf L) (empty : none ≡ []) (gain : MayGain old (record { perm = perm; factor = none }) mid)
    (at : ℕ) (w : WithList L) (inside : at < length mid) (is : w ≡ get_or mid at w) (same : w.perm ≡ perm) (order : AreInOrder old → AreInOrder mid) (factor gained : WholeTermsOf L) where
  module _ {eq : L → L → Bool} (tells : (x y : L) → eq x y ≡ true → x ≡ y) where
    pub joined : {is_label : L → Bool} (laws : IsEquivalence eq) → IsCombination eq is_label whole factor → Gains w.factor gained factor → Joins old (record { perm = perm; factor = gained } ∷ []) (set mid at (entry w factor))
    joined laws table gains = record {
      value = λ φ.
          let a = total_set (λ (x : WithList L). over (φ x.perm) x.factor) mid at w (entry w factor) inside is in
          let b = gains.sums (φ w.perm) in
          let c = total_gain (λ (x : WithList L). over (φ x.perm) x.factor) old mid (record { perm = perm; factor = none }) gain (ap (over (φ perm)) empty) in
          let d = ap (λ p. over (φ p) gained) same in
          let e = +ℤ_idr (over (φ perm) gained) in
          omega (arith, ints);
      grows = λ share.
          let a = sum_by-set (λ (x : WithList L). weighed (share x.perm) x.factor) mid at w (entry w factor) inside is in
          let b = gains_weighed tells laws w.factor gained factor table gains (share w.perm) in
          let c = sum_by-gain (λ (x : WithList L). weighed (share x.perm) x.factor) old mid (record { perm = perm; factor = none }) gain (ap (weighed (share perm)) empty) in
          let d = ap (λ p. weighed (share p) gained) same in
          omega arith;
      waiting = λ extent n top was more x m.
          let here = more (record { perm = perm; factor = gained }) (inl refl) in
          let middle = among_gain (IsWaiting extent n top) old mid (record { perm = perm; factor = none }) gain
          (record { few = here.few; inside = here.inside; labels = subst (HaveLabels (λ label. extent label + inversions perm ≤ top)) (sym empty) (λ t k. absurd k) }) was in
          elim (among_set x at (entry w factor) mid m) [
            | inl e ↦
                let before = middle w (Among-get_or mid at w inside is) in
                subst (IsWaiting extent n top) (sym e)
                (record {
                  few = before.few;
                  inside = before.inside;
                  labels = labels_gained laws tells w.factor gained factor table gains (λ label. extent label + inversions w.perm ≤ top) before.labels
                      (subst (λ p. HaveLabels (λ label. extent label + inversions p ≤ top) gained) (sym same) here.labels);
                })
            | inr k ↦ middle x k
          ];
      ordered = λ o. order_set mid at w (entry w factor) inside is refl (order o);
      loaded =
          let a = load_set mid at w (entry w factor) inside is refl in
          let b = load_gain old mid (record { perm = perm; factor = none }) gain in
          omega arith;
    }

    pub joined_overflow : Overflows eq w.factor gained → WaitingOverflows old (record { perm = perm; factor = gained } ∷ [])
    joined_overflow o = record {
      entry = record { perm = perm; factor = gained };
      added = inl refl;
      label = o.0;
      large = λ share some.
          let p = ap (λ p. share p o.0) same in
          let a = sum_by-at (λ (x : WithList L). weighed (share x.perm) x.factor) mid at w inside is in
          let b = overflow_weighed tells w.factor gained o (share w.perm) (omega arith) in
          let c = sum_by-gain (λ (x : WithList L). weighed (share x.perm) x.factor) old mid (record { perm = perm; factor = none }) gain (ap (weighed (share perm)) empty) in
          let d = ap (λ p. weighed (share p) gained) same in
          omega arith;
    }

module _ {L : Type 0} where
  pub joins_none : (old : List (WithList L)) → Joins old [] old
  joins_none old = record {
    value = λ φ. sym (+ℤ_idr (value_of φ old));
    grows = λ share. omega arith;
    waiting = λ extent n top was more. was;
    ordered = λ o. o;
    loaded = omega arith;
  }

  pub joins_both : (old g mid h new : List (WithList L)) → Joins old g mid → Joins mid h new → Joins old (g ++ h) new
  joins_both old g mid h new a b = record {
    value = λ φ.
        let x = a.value φ in
        let y = b.value φ in
        let z = total_append (λ (w : WithList L). over (φ w.perm) w.factor) g h in
        omega (arith, ints);
    grows = λ share.
        let x = a.grows share in
        let y = b.grows share in
        let z = sum_by-append (λ (w : WithList L). weighed (share w.perm) w.factor) g h in
        omega arith;
    waiting = λ extent n top was more.
        b.waiting extent n top (a.waiting extent n top was (λ w m. more w (Among-append_left w g h m))) (λ w m. more w (Among-append_right w g h m));
    ordered = λ o. b.ordered (a.ordered o);
    loaded = let x = a.loaded in let y = b.loaded in let z = load_append g h in omega arith;
  }

  pub overflows_both : (old g mid h : List (WithList L)) → Joins old g mid → WaitingOverflows mid h → WaitingOverflows old (g ++ h)
  overflows_both old g mid h a o = record {
    entry = o.entry;
    added = Among-append_right o.entry g h o.added;
    label = o.label;
    large = λ share some.
        let x = a.grows share in
        let y = o.large share some in
        let z = sum_by-append (λ (w : WithList L). weighed (share w.perm) w.factor) g h in
        omega arith;
  }

  pub overflows_more : (old g h : List (WithList L)) → WaitingOverflows old g → WaitingOverflows old (g ++ h)
  overflows_more old g h o = record {
    entry = o.entry;
    added = Among-append_left o.entry g h o.added;
    label = o.label;
    large = λ share some.
        let y = o.large share some in
        let z = sum_by-append (λ (w : WithList L). weighed (share w.perm) w.factor) g h in
        omega arith;
  }

  pub joins_swapped : (old g h new : List (WithList L)) → Joins old (g ++ h) new → Joins old (h ++ g) new
  joins_swapped old g h new a = record {
    value = λ φ.
        let x = a.value φ in
        let y = total_append (λ (w : WithList L). over (φ w.perm) w.factor) g h in
        let z = total_append (λ (w : WithList L). over (φ w.perm) w.factor) h g in
        omega (arith, ints);
    grows = λ share.
        let x = a.grows share in
        let y = sum_by-append (λ (w : WithList L). weighed (share w.perm) w.factor) g h in
        let z = sum_by-append (λ (w : WithList L). weighed (share w.perm) w.factor) h g in
        omega arith;
    waiting = λ extent n top was more.
        a.waiting extent n top was
        (λ w m. elim (Among_from_append w g h m) [ inl l ↦ more w (Among-append_right w h g l) | inr r ↦ more w (Among-append_left w h g r) ]);
    ordered = a.ordered;
    loaded = let x = a.loaded in let y = load_append g h in let z = load_append h g in omega arith;
  }

  pub overflows_swapped : (old g h : List (WithList L)) → WaitingOverflows old (g ++ h) → WaitingOverflows old (h ++ g)
  overflows_swapped old g h o = record {
    entry = o.entry;
    added = elim (Among_from_append o.entry g h o.added) [ inl l ↦ Among-append_right o.entry h g l | inr r ↦ Among-append_left o.entry h g r ];
    label = o.label;
    large = λ share some.
        let x = o.large share some in
        let y = sum_by-append (λ (w : WithList L). weighed (share w.perm) w.factor) g h in
        let z = sum_by-append (λ (w : WithList L). weighed (share w.perm) w.factor) h g in
        omega arith;
  }

  pub each_append : (list : WholeTermsOf L) (xs ys : List (List ℕ)) → each_waits list (xs ++ ys) ≡ each_waits list xs ++ each_waits list ys
  each_append list [] ys = refl
  each_append list (x ∷ xs) ys = ap (λ (l : List (WithList L)). (record { perm = x; factor = list }) ∷ l) (each_append list xs ys)

  pub each_popped : (list : WholeTermsOf L) (xs rest : List (List ℕ)) (x : List ℕ) → xs ≡ rest ++ x ∷ []
      → each_waits list rest ++ (record { perm = x; factor = list }) ∷ [] ≡ each_waits list xs
  each_popped list xs rest x e = sym (each_append list rest (x ∷ [])) ∙ ap (each_waits list) (sym e)

  pub each_value : (φ : List ℕ → L → ℤ) (list : WholeTermsOf L) (xs : List (List ℕ)) → value_of φ (each_waits list xs) ≡ total (λ (x : List ℕ). over (φ x) list) xs
  each_value φ list [] = refl
  each_value φ list (x ∷ xs) = ap (λ z. over (φ x) list +ℤ z) (each_value φ list xs)

  pub each_growth : (share : List ℕ → L → ℕ) (list : WholeTermsOf L) (xs : List (List ℕ))
      → growth share (each_waits list xs) ≡ weighed (λ e. sum_by (λ (x : List ℕ). share x e) xs) list
  each_growth share list [] = sym (weighed_zero (λ e. 0) (λ e. refl) list)
  each_growth share list (x ∷ xs) =
      ap (λ k. weighed (share x) list + k) (each_growth share list xs)
      ∙ sym (weighed_add (share x) (λ e. sum_by (λ (x : List ℕ). share x e) xs) list)

  pub each_load : (list : WholeTermsOf L) (xs : List (List ℕ)) → load (each_waits list xs) ≡ sum_by weight xs
  each_load list [] = refl
  each_load list (x ∷ xs) = ap (λ n. weight x + n) (each_load list xs)

  pub each_among : (P : WithList L → Type 0) (list : WholeTermsOf L) (xs : List (List ℕ)) → ((x : List ℕ) → Among x xs → P (record { perm = x; factor = list }))
      → (w : WithList L) → Among w (each_waits list xs) → P w
  each_among P list [] h w m = absurd m
  each_among P list (x ∷ xs) h w (inl e) = subst P (sym e) (h x (inl refl))
  each_among P list (x ∷ xs) h w (inr m) = each_among P list xs (λ y k. h y (inr k)) w m
