-- The labels that a walk lists are in decreasing lexicographic order, and stay so without the zeros at their ends.
use Rattle.std.proofs.Common.{◌≡◌, ◌⊎◌, inl, inr, ℕ, zero, suc, ◌<◌, ◌==◌, Bool, true, false, cond, List, [], ◌∷◌, map, refl, sym, ap, ◌∙◌, subst, arith}
use Rattle.std.proofs.lemmas.List.{map-append}
use Rattle.std.specs.Ordering.{nat_cmp, ordering_then}
use Rattle.std.specs.declared.cmp.Ordering.TheVariants.{Less}
use Rattle.sym_model.specs.Sum.{Among}
use Rattle.sym_model.specs.Partition.{in_front, without_last_zeros}
use Rattle.sym_model.specs.PartitionList.{FallsLexicographically}
use Rattle.sym_model.specs.PrintedOrder.{falling_lexicographic}
use Rattle.sym_model.proofs.PartitionLists.{FallsLexicographically-append, FallsLexicographically-map, greater_first}
use Rattle.sym_model.proofs.Sums.{Among_from_append, Among_from_map}
use Rattle.prefix_walk.specs.Terms.{with_entry, from_top, terms_below}

abbrev pub labels_of : List (List ℕ × ℕ) → List (List ℕ)
labels_of terms = map (λ (t : List ℕ × ℕ). t.0) terms

labels-with_entry : (a : ℕ) (terms : List (List ℕ × ℕ)) → labels_of (with_entry a terms) ≡ map (λ x. a ∷ x) (labels_of terms)
labels-with_entry a [] = refl
labels-with_entry a (t ∷ terms) = ap (λ (l : List (List ℕ)). (a ∷ t.0) ∷ l) (labels-with_entry a terms)

-- a label begins with an entry less than n
abbrev BeginsBelow : ℕ → List ℕ → Type 0
BeginsBelow n x = (a : ℕ) × (a < n) × (rest : List ℕ) × (x ≡ a ∷ rest)

module _ (part : ℕ → List (List ℕ × ℕ)) (begins : (a : ℕ) (x : List ℕ) → Among x (labels_of (part a)) → (rest : List ℕ) × (x ≡ a ∷ rest)) where
  begins_below : (n : ℕ) (x : List ℕ) → Among x (labels_of (from_top part n)) → BeginsBelow n x
  begins_below zero x m = absurd m
  begins_below (suc n) x m =
      by (Among_from_append x (labels_of (part n)) (labels_of (from_top part n)) (subst (Among x) (map-append (λ (t : List ℕ × ℕ). t.0) (part n) (from_top part n)) m)) (begins_below n x)
    where
      by : Among x (labels_of (part n)) ⊎ Among x (labels_of (from_top part n)) → (Among x (labels_of (from_top part n)) → BeginsBelow n x) → BeginsBelow (suc n) x
      by (inl h) rec = let b = begins n x h in (n, omega arith, b.0, b.1)
      by (inr h) rec = let b = rec h in (b.0, let l = b.1 in omega arith, b.2, b.3)

  from_top_falls : (n : ℕ) → ((a : ℕ) → FallsLexicographically (labels_of (part a))) → FallsLexicographically (labels_of (from_top part n))
  from_top_falls zero falls = tt
  from_top_falls (suc n) falls =
      subst FallsLexicographically (sym (map-append (λ (t : List ℕ × ℕ). t.0) (part n) (from_top part n)))
      (FallsLexicographically-append (labels_of (part n)) (labels_of (from_top part n)) (falls n) (from_top_falls n falls)
      (λ x y m k.
      let b = begins n x m in
      let c = begins_below n y k in
      subst (λ z. falling_lexicographic z y ≡ Less) (sym b.1)
      (subst (λ z. falling_lexicographic (n ∷ b.0) z ≡ Less) (sym c.3) (greater_first n c.0 b.0 c.2 c.1))))

lone_falls : (b : Bool) (count : ℕ) → FallsLexicographically (labels_of (cond b [] (([], count) ∷ [])))
lone_falls true count = tt
lone_falls false count = (λ y m. absurd m, tt)

pub labels_fall : (bound n : ℕ) (f : List ℕ → ℕ) → FallsLexicographically (labels_of (terms_below bound n f))
labels_fall bound zero f = lone_falls (f [] == 0) (f [])
labels_fall bound (suc n) f =
    let rest : ℕ → List (List ℕ × ℕ) = λ a. terms_below bound n (λ label. f (a ∷ label)) in
    from_top_falls (λ a. with_entry a (rest a))
    (λ a x m. let r = Among_from_map (λ z. a ∷ z) x (labels_of (rest a)) (subst (Among x) (labels-with_entry a (rest a)) m) in (r.0, r.2)) bound
    (λ a. subst FallsLexicographically (sym (labels-with_entry a (rest a)))
    (FallsLexicographically-map a (labels_of (rest a)) (labels_fall bound n (λ label. f (a ∷ label)))))

-- ---- without the zeros at the end

front-left : (a : ℕ) (x y : List ℕ) → falling_lexicographic (in_front a x) y ≡ falling_lexicographic (a ∷ x) y
front-left zero [] [] = refl
front-left zero [] (b ∷ y) = refl
front-left zero (c ∷ x) y = refl
front-left (suc a) x y = refl

front-right : (b : ℕ) (x y : List ℕ) → falling_lexicographic x (in_front b y) ≡ falling_lexicographic x (b ∷ y)
front-right zero [] [] = refl
front-right zero (a ∷ x) [] = refl
front-right zero x (c ∷ y) = refl
front-right (suc b) x y = refl

pub falling-without_last_zeros : (x y : List ℕ) → falling_lexicographic (without_last_zeros x) (without_last_zeros y) ≡ falling_lexicographic x y
falling-without_last_zeros [] [] = refl
falling-without_last_zeros [] (b ∷ y) =
    front-right b [] (without_last_zeros y) ∙ ap (ordering_then (nat_cmp b 0)) (falling-without_last_zeros [] y)
falling-without_last_zeros (a ∷ x) [] =
    front-left a (without_last_zeros x) [] ∙ ap (ordering_then (nat_cmp 0 a)) (falling-without_last_zeros x [])
falling-without_last_zeros (a ∷ x) (b ∷ y) =
    front-left a (without_last_zeros x) (in_front b (without_last_zeros y))
    ∙ front-right b (a ∷ without_last_zeros x) (without_last_zeros y)
    ∙ ap (ordering_then (nat_cmp b a)) (falling-without_last_zeros x y)
