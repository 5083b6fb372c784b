-- A sorted list of pairs with distinct labels is in strict order.
use Rattle.std.proofs.Common.{◌≡◌, ℕ, suc, ◌+◌, ◌<◌, Bool, true, false, ◌&&◌, List, [], ◌∷◌, length, get_or, refl, sym, ap, ◌∙◌, arith}
use Rattle.std.specs.Cmp.{IsEquivalence, IsTotalOrder}
use Rattle.std.specs.List.{IsDistinct}
use Rattle.std.specs.Prelude.{Option, Some, None, map}
use Rattle.std.specs.List.Sorted.{IsPermutation}
use Rattle.std.specs.Map.{keys_of, lookup}
use Rattle.std.specs.Ordering.{is_lt, ordering_reverse}
use Rattle.std.specs.declared.cmp.Ordering.{Ordering}
use Rattle.std.specs.declared.cmp.Ordering.TheVariants.{Less, Equal, Greater}
use Rattle.std.proofs.lemmas.Bool.{and_parts, and_from}
use Rattle.std.proofs.lemmas.Map.Keys.{IsDistinct-tail, IsDistinct-IsPermutation, apart_from_distinct}
use Rattle.std.proofs.lemmas.Map.Views.{Contains-from_lookup, lookup-from_Contains}
use Rattle.std.proofs.lemmas.List.Sorted.{IsPermutation-map, IsPermutation-sym, Contains-permutation}
use Rattle.sym_model.specs.Expansion.{Fraction}
use Rattle.sym_model.specs.Canonical.{is_reduced}
use Rattle.linear_combinations.specs.Entries.{is_ordered, are_terms}

module _ {L R : Type 0} {eq : L → L → Bool} {order : L → L → Ordering} {is_label : L → Bool} (laws : IsEquivalence eq) (total : IsTotalOrder order)
    (exact : (a b : L) → is_label a ≡ true → is_label b ≡ true → order a b ≡ Equal → a ≡ b) (value : R → Fraction) where
  stands_before : (x y : L) → is_label x ≡ true → is_label y ≡ true → eq x y ≡ false → is_lt (order y x) ≡ false → is_lt (order x y) ≡ true
  stands_before x y p q apart up = by (order y x) refl up
    where
      by : (o : Ordering) → order y x ≡ o → is_lt o ≡ false → is_lt (order x y) ≡ true
      by Less e h = cc
      by Equal e h = let same : x ≡ y = sym (exact y x q p e) in let here : eq x x ≡ false = ap (eq x) same ∙ apart in let itself = laws.refl x in cc
      by Greater e h = ap is_lt (total.antisymm x y ∙ ap ordering_reverse e)

  abbrev is_term : L → R → Bool
  is_term label c = is_reduced (value c) && is_label label

  pub is_ordered-sorted : (es : List (L × R)) → IsDistinct eq (keys_of es) → are_terms value is_label es ≡ true
      → ((i j : ℕ) (d : L × R) → j ≡ i + 1 → j < length es → is_lt (order (get_or es j d).0 (get_or es i d).0) ≡ false) → is_ordered order es ≡ true
  is_ordered-sorted [] distinct proper sorted = refl
  is_ordered-sorted (x ∷ []) distinct proper sorted = refl
  is_ordered-sorted (x ∷ y ∷ es) distinct proper sorted =
      let p : (is_term x.0 x.1 ≡ true) × (are_terms value is_label (y ∷ es) ≡ true) = and_parts (is_term x.0 x.1) _ proper in
      let q : (is_term y.0 y.1 ≡ true) × (are_terms value is_label es ≡ true) = and_parts (is_term y.0 y.1) _ p.1 in
      and_from (is_lt (order x.0 y.0)) _
      (stands_before x.0 y.0 (and_parts (is_reduced (value x.1)) (is_label x.0) p.0).1 (and_parts (is_reduced (value y.1)) (is_label y.0) q.0).1 (apart_from_distinct eq (keys_of (x ∷ y ∷ es)) 0 1 x.0 distinct (omega arith) (omega arith)) (sorted 0 1 x refl (omega arith)))
      (is_ordered-sorted (y ∷ es) (IsDistinct-tail eq x.0 (keys_of (y ∷ es)) distinct) p.1 (λ i j d e h. sorted (suc i) (suc j) d (omega arith) (omega arith)))

module _ {L X : Type 0} {eq : L → L → Bool} (laws : IsEquivalence eq) (same : (x y : L) → eq x y ≡ true → x ≡ y) (old new : List (L × X)) (moved : IsPermutation old new) where
  pub distinct-moved : IsDistinct eq (keys_of old) → IsDistinct eq (keys_of new)
  distinct-moved distinct =
      let key : L × X → L = λ e. e.0 in
      IsDistinct-IsPermutation eq laws.symm (map key old) (map key new) (IsPermutation-map key old new moved) distinct

  pub lookup-moved : IsDistinct eq (keys_of old) → (k : L) → lookup (eq k) new ≡ lookup (eq k) old
  lookup-moved distinct k = by (lookup (eq k) new) (lookup (eq k) old) refl refl
    where
      by : (a b : Option X) → lookup (eq k) new ≡ a → lookup (eq k) old ≡ b → a ≡ b
      by None None p q = refl
      by None (Some y) p q =
          let found = lookup-from_Contains laws k y new (distinct-moved distinct) (Contains-permutation old new (k, y) moved (Contains-from_lookup same k y old q)) in
          cc
      by (Some x) b p q =
          let found = lookup-from_Contains laws k x old distinct (Contains-permutation new old (k, x) (IsPermutation-sym old new moved) (Contains-from_lookup same k x new p)) in
          sym found ∙ q
