-- The moves of a walk: a level is left, a group of records ends a label, a group of records makes a further level.
use Rattle.std.proofs.Common.{◌≡◌, ℕ, suc, ◌+◌, ◌-◌, ◌<◌, List, [], ◌∷◌, ◌++◌, length, refl, sym, ap, ◌∙◌, subst, arith, Vec, Global}
use Rattle.std.specs.Prelude.{Option, MatchOption}
use Rattle.std.specs.Option.{option_to_list, option_map}
use Rattle.std.specs.List.{All}
use Rattle.std.specs.List.Sorted.{IsPermutation}
use Rattle.std.proofs.lemmas.List.Elements.{All-weaker}
use Rattle.prefix_walk.specs.Terms.{with_entry, lone_term, terms_below}
use Rattle.prefix_walk.specs.Levels.{at_most_cap, weighed_at, terms_of, rest_at, entries_of, Rise, IsStep, AreRecords, IsLast, IsTaken, AreSound, top_of, work_left}
use Rattle.prefix_walk.proofs.RecordLists.{records_taken, last_within, top_taken, top_within, records_sorted, weighed_sorted, weighed_same, greatest_last}
use Rattle.prefix_walk.proofs.TermLists.{terms_taken, terms_next}
use Rattle.prefix_walk.proofs.Stacks.{last_rest, deeper_rest, last_node, taken_sound, deeper_sound, taken_work, deeper_work}

-- the list of the records of a level
abbrev pub Records : Type 0 → Type 0
Records S = Vec ((ℕ × S) × ℕ) Global

-- the terms of a level
abbrev pub level_terms : {S : Type 0} → (ℕ → S → List ℕ → ℕ) → ℕ → ℕ → Records S → List (List ℕ × ℕ)
level_terms ways end n x = terms_of ways end n x.items

-- that a level is sound
abbrev pub is_level : {S : Type 0} → (ℕ → S → Type 0) → ℕ → ℕ → Records S → Type 0
is_level state end n x = AreRecords (state n) end x.items

abbrev pub level_top : {S : Type 0} → Records S → ℕ
level_top x = top_of x.items

module _ (S : Type 0) (state : ℕ → S → Type 0) (ways : ℕ → S → List ℕ → ℕ) (end : ℕ) where
  module _ (front : List (Records S × ℕ)) (x z : Records S) (a after : ℕ) (sound : AreSound (is_level state end) (length front + (after + 1)) (front ++ (x, a) ∷ []))
      (last : IsLast a x.items) where
    pub here : AreRecords (state after) end x.items
    here = last_node (Records S) (is_level state end) (length front + (after + 1)) after front x a refl sound

    pub greatest : All (λ r. r.0.0 < a + 1) x.items
    greatest = greatest_last a x.items last here.rise

    module _ (taken : IsTaken a x.items z.items) (below : All (λ r. r.0.0 < a) z.items) where
      left : AreRecords (state after) end z.items
      left = records_taken S a x.items z.items taken (state after) end here

      -- a group of records ends a label
      pub leaf_sound : AreSound (is_level state end) (length front + (after + 1)) (front ++ (z, a) ∷ [])
      leaf_sound = taken_sound (Records S) (is_level state end) (length front + (after + 1)) after front x z a a refl sound left

      pub leaf_less : work_left level_top end (length front + (after + 1)) (front ++ (z, a) ∷ []) < work_left level_top end (length front + (after + 1)) (front ++ (x, a) ∷ [])
      leaf_less = taken_work (Records S) level_top end (length front + (after + 1)) after front x z a a refl (top_taken a x.items z.items last below)

      pub leaf_rest : ((s : S) → state 0 s → ways 0 s [] ≡ 1) → after ≡ 0 → (total : ℕ) → total ≡ at_most_cap (weighed_at a (λ s. 1) x.items)
          → (r : Option ℕ) → MatchOption r (total ≡ 0) (λ c. (c ≡ total) × (0 < total))
          → rest_at (level_terms ways end) (length front + (after + 1)) (front ++ (x, a) ∷ [])
          ≡ option_to_list (option_map (λ c. (entries_of (front ++ (z, a) ∷ []), c)) r) ++ rest_at (level_terms ways end) (length front + (after + 1)) (front ++ (z, a) ∷ [])
      leaf_rest ended none total is r h =
          last_rest (Records S) (level_terms ways end) (length front + (after + 1)) front x z a a total r (omega (arith, none))
          (terms_taken S ways end 0 a x.items z.items (last_within (state after) end a x.items here last) taken below
          ∙ ap (λ (c : ℕ). with_entry a (lone_term c) ++ terms_of ways end 0 z.items)
          (ap at_most_cap (weighed_same a (λ s. ways 0 s []) (λ s. 1) x.items
          (All-weaker (λ r. IsStep (state after) end r.0) (λ r. ways 0 r.0.1 [] ≡ 1) (λ r s. ended r.0.1 (subst (λ (n : ℕ). state n r.0.1) none s.0)) x.items here.steps))
          ∙ sym is)) h

      -- a group of records makes a further level
      module _ (next y : Records S) (m : ℕ) (more : after ≡ m + 1) (steps : All (λ r. IsStep (state m) end r.0) next.items) (moved : IsPermutation next.items y.items) (rise : Rise y.items) where
        new : AreRecords (state m) end y.items
        new = records_sorted (state m) end next.items y.items steps moved rise

        pub deeper_is_sound : AreSound (is_level state end) (length front + (after + 1)) ((front ++ (z, a) ∷ []) ++ (y, a) ∷ [])
        deeper_is_sound =
            deeper_sound (Records S) (is_level state end) (length front + (after + 1)) m front x z y a a a (omega (arith, more)) sound
            (subst (λ (n : ℕ). AreRecords (state n) end z.items) more left) new

        pub deeper_less : work_left level_top end (length front + (after + 1)) ((front ++ (z, a) ∷ []) ++ (y, a) ∷ []) < work_left level_top end (length front + (after + 1)) (front ++ (x, a) ∷ [])
        deeper_less =
            deeper_work (Records S) level_top end (length front + (after + 1)) m front x z y a a a (omega (arith, more)) (top_taken a x.items z.items last below)
            (top_within (state m) end y.items new)

        pub deeper_is_rest : ((b : ℕ) (label : List ℕ) → length label ≡ m
            → at_most_cap (weighed_at b (λ s. ways m s label) next.items) ≡ at_most_cap (weighed_at a (λ s. ways (m + 1) s (b ∷ label)) x.items))
            → rest_at (level_terms ways end) (length front + (after + 1)) (front ++ (x, a) ∷ [])
            ≡ rest_at (level_terms ways end) (length front + (after + 1)) ((front ++ (z, a) ∷ []) ++ (y, a) ∷ [])
        deeper_is_rest adds =
            let one : m + 1 ≡ suc m = omega arith in
            deeper_rest (Records S) (level_terms ways end) (length front + (after + 1)) m front x z y a a a (omega (arith, more))
            (terms_taken S ways end (suc m) a x.items z.items (last_within (state after) end a x.items here last) taken below
            ∙ ap (λ (t : List (List ℕ × ℕ)). with_entry a t ++ terms_of ways end (suc m) z.items)
            (terms_next S ways end m (λ label. weighed_at a (λ s. ways (suc m) s label) x.items) y.items
            (λ b label e. ap at_most_cap (weighed_sorted b (λ s. ways m s label) next.items y.items moved) ∙ adds b label e
            ∙ ap (λ (n : ℕ). at_most_cap (weighed_at a (λ s. ways n s (b ∷ label)) x.items)) one)))

-- the terms of the first level
pub first_rest : (S : Type 0) (ways : ℕ → S → List ℕ → ℕ) (end len a : ℕ) (start : S) (x : Records S) → 0 < len
    → ((b : ℕ) (label : List ℕ) → length label ≡ len - 1
    → at_most_cap (weighed_at b (λ s. ways (len - 1) s label) x.items) ≡ at_most_cap (ways (len - 1 + 1) start (b ∷ label)))
    → rest_at (level_terms ways end) len ((x, a) ∷ []) ≡ terms_below end len (λ label. at_most_cap (ways len start label))
first_rest S ways end len a start x some h =
    let k : len ≡ suc (len - 1) = omega (arith, some) in
    let i : len - 1 + 1 ≡ len = omega (arith, some) in
    ap (λ (n : ℕ). rest_at (level_terms ways end) n ((x, a) ∷ [])) k
    ∙ sym (terms_next S ways end (len - 1) (ways len start) x.items
    (λ b label e. h b label e ∙ ap (λ (n : ℕ). at_most_cap (ways n start (b ∷ label))) i))
    ∙ ap (λ (n : ℕ). terms_below end n (λ label. at_most_cap (ways len start label))) (sym k)
