-- Sums over the terms of a combination, which is a list of terms with distinct labels: they are determined by the coefficients of the labels and do
-- not depend on the order of the terms.
use Rattle.std.proofs.Common.{◌≡◌, ◌≤◌, Bool, true, false, not, cond, ◌&&◌, List, [], ◌∷◌, length, ℤ, pos, ◌+ℤ◌, refl, sym, ap, ◌∙◌, subst, inl, inr, arith, filter}
use Rattle.std.specs.Prelude.{Option, Some, None}
use Rattle.std.specs.Option.{unwrap_or}
use Rattle.std.specs.Cmp.{IsEquivalence}
use Rattle.std.specs.List.{IsDistinct}
use Rattle.std.specs.Map.{lookup, keys_of}
use Rattle.std.proofs.lemmas.Bool.{and_parts, not-true}
use Rattle.std.proofs.lemmas.Int.{ints}
use Rattle.std.proofs.lemmas.Map.{lookup-none}
use Rattle.std.proofs.lemmas.Map.Keys.{IsDistinct-tail}
use Rattle.std.proofs.lemmas.Map.Entries.{none_past_head}
use Rattle.fraction_laws.specs.Fractions.{whole}
use Rattle.sym_model.specs.Sum.{total, Among, Once}
use Rattle.sym_model.specs.Expansion.{Fraction}
use Rattle.sym_model.specs.Canonical.{is_reduced}
use Rattle.sym_model.proofs.Sums.{total_split, total_same_members, length_within, Once-select, Among-select, Among_from_select}
use Rattle.linear_combinations.specs.Entries.{coefficient, are_terms, IsCombination, HasMoreAt, HasSameCoefficients}
use Rattle.linear_combinations.proofs.LowestTerms.{not_zero-is_reduced}

pub term-among : {L R : Type 0} (is_label : L → Bool) (value : R → Fraction) (terms : List (L × R)) → are_terms value is_label terms ≡ true → (t : L × R) → Among t terms → (is_reduced (value t.1) && is_label t.0) ≡ true
term-among is_label value [] h t m = absurd m
term-among {L} {R} is_label value (u ∷ terms) h t (inl e) = subst (λ (v : L × R). (is_reduced (value v.1) && is_label v.0) ≡ true) (sym e) (and_parts _ _ h).0
term-among is_label value (u ∷ terms) h t (inr m) = term-among is_label value terms (and_parts _ _ h).1 t m

module _ {L R : Type 0} {eq : L → L → Bool} (laws : IsEquivalence eq) (same : (x y : L) → eq x y ≡ true → x ≡ y) where
  pub found-among : (terms : List (L × R)) → IsDistinct eq (keys_of terms) → (t : L × R) → Among t terms → lookup (eq t.0) terms ≡ Some t.1
  found-among [] distinct t m = absurd m
  found-among (u ∷ terms) distinct t (inl e) =
      subst (λ (v : L × R). lookup (eq v.0) (u ∷ terms) ≡ Some v.1) (sym e) (ap (λ b. cond b (Some u.1) (lookup (eq u.0) terms)) (laws.refl u.0))
  found-among (u ∷ terms) distinct t (inr m) = by (eq t.0 u.0) refl (found-among terms (IsDistinct-tail eq u.0 (keys_of terms) distinct) t m)
    where
      by : (b : Bool) → eq t.0 u.0 ≡ b → lookup (eq t.0) terms ≡ Some t.1 → cond b (Some u.1) (lookup (eq t.0) terms) ≡ Some t.1
      by true p found = let none = lookup-none (eq t.0) terms (none_past_head laws t.0 u terms distinct p) in cc
      by false p found = found

  pub among-found : (terms : List (L × R)) (k : L) (c : R) → lookup (eq k) terms ≡ Some c → Among (k, c) terms
  among-found [] k c found = cc
  among-found (u ∷ terms) k c found = by (eq k u.0) refl found (among-found terms k c)
    where
      by : (b : Bool) → eq k u.0 ≡ b → cond b (Some u.1) (lookup (eq k) terms) ≡ Some c → (lookup (eq k) terms ≡ Some c → Among (k, c) terms) → Among (k, c) (u ∷ terms)
      by true p found rest =
          let here : u.1 ≡ c = cc in
          let pair : L → R → L × R = λ x y. (x, y) in
          inl (ap (λ x. pair x c) (same k u.0 p) ∙ ap (pair u.0) (sym here))
      by false p found rest = inr (rest found)

  pub once : (terms : List (L × R)) → IsDistinct eq (keys_of terms) → Once terms
  once [] distinct = tt
  once (t ∷ terms) distinct =
      let tail = IsDistinct-tail eq t.0 (keys_of terms) distinct in
      (λ m. let found = found-among terms tail t m in let none = lookup-none (eq t.0) terms (none_past_head laws t.0 t terms distinct (laws.refl t.0)) in cc, once terms tail)

  module _ (zero : R) (value : R → Fraction) (zero_value : value zero ≡ whole (pos 0)) {is_label : L → Bool} where
    pub carried : (first second : List (L × R)) → IsCombination eq is_label value first → (t : L × R) → Among t first → coefficient eq zero second t.0 ≡ coefficient eq zero first t.0 → Among t second
    carried first second is t m e = by (lookup (eq t.0) second) refl
      where
        here : coefficient eq zero first t.0 ≡ t.1
        here = ap (λ (o : Option R). unwrap_or o zero) (found-among first is.distinct t m)

        reduced : is_reduced (value t.1) ≡ true
        reduced = (and_parts _ _ (term-among is_label value first is.proper t m)).0

        by : (o : Option R) → lookup (eq t.0) second ≡ o → Among t second
        by None p = absurd (not_zero-is_reduced (value t.1) reduced (ap value (sym here ∙ sym e ∙ ap (λ (o : Option R). unwrap_or o zero) p) ∙ zero_value))
        by (Some c) p =
            let equal : c ≡ t.1 = sym (ap (λ (o : Option R). unwrap_or o zero) p) ∙ e ∙ here in
            among-found second t.0 t.1 (p ∙ ap Some (equal))

    module _ (first second : List (L × R)) (is : IsCombination eq is_label value first) (also : IsCombination eq is_label value second) where
      pub total_same : (f : L × R → ℤ) → HasSameCoefficients eq zero first second → total f first ≡ total f second
      total_same f equal =
          total_same_members f first second (once first is.distinct) (once second also.distinct)
          (λ t m. carried first second is t m (equal t.0)) (λ t m. carried second first also t m (sym (equal t.0)))

      pub length_same : HasSameCoefficients eq zero first second → length first ≤ length second
      length_same equal = length_within second first (once first is.distinct) (λ t m. carried first second is t m (equal t.0))

  select_none : (k : L) (terms : List (L × R)) → lookup (eq k) terms ≡ None → filter (λ (t : L × R). eq k t.0) terms ≡ []
  select_none k [] none = refl
  select_none k (t ∷ terms) none = by (eq k t.0) none (select_none k terms)
    where
      by : (b : Bool) → cond b (Some t.1) (lookup (eq k) terms) ≡ None → (lookup (eq k) terms ≡ None → filter (λ (t : L × R). eq k t.0) terms ≡ []) → cond b (t ∷ filter (λ (t : L × R). eq k t.0) terms) (filter (λ (t : L × R). eq k t.0) terms) ≡ []
      by true none rest = cc
      by false none rest = rest none

  module _ (zero : R) (f : L → R → ℤ) (empty : (l : L) → f l zero ≡ pos 0) (k : L) where
    total-at : (terms : List (L × R)) → IsDistinct eq (keys_of terms) → total (λ (t : L × R). f t.0 t.1) (filter (λ (t : L × R). eq k t.0) terms) ≡ f k (coefficient eq zero terms k)
    total-at [] distinct = sym (empty k)
    total-at (t ∷ terms) distinct = by (eq k t.0) refl (total-at terms (IsDistinct-tail eq t.0 (keys_of terms) distinct))
      where
        by : (b : Bool) → eq k t.0 ≡ b → total (λ (u : L × R). f u.0 u.1) (filter (λ (u : L × R). eq k u.0) terms) ≡ f k (coefficient eq zero terms k) → total (λ (u : L × R). f u.0 u.1) (cond b (t ∷ filter (λ (u : L × R). eq k u.0) terms) (filter (λ (u : L × R). eq k u.0) terms)) ≡ f k (unwrap_or (cond b (Some t.1) (lookup (eq k) terms)) zero)
        by true p h =
            let none : filter (λ (u : L × R). eq k u.0) terms ≡ [] = select_none k terms (lookup-none (eq k) terms (none_past_head laws k t terms distinct p)) in
            ap (λ ts. f t.0 t.1 +ℤ total (λ (u : L × R). f u.0 u.1) ts) none
            ∙ (let alone : f t.0 t.1 +ℤ pos 0 ≡ f t.0 t.1 = omega (arith, ints) in alone)
            ∙ ap (λ x. f x t.1) (sym (same k t.0 p))
        by false p h = h

    pub total-more : (value : R → Fraction) (sum : R → R → R) → value zero ≡ whole (pos 0) → {is_label : L → Bool} (old new : List (L × R)) → IsCombination eq is_label value old → IsCombination eq is_label value new → (c : R) → HasMoreAt eq zero sum old k c new
        → total (λ (t : L × R). f t.0 t.1) new +ℤ f k (coefficient eq zero old k) ≡ total (λ (t : L × R). f t.0 t.1) old +ℤ f k (coefficient eq zero new k)
    total-more value sum zero_value old new is also c more =
        let summand : L × R → ℤ = λ t. f t.0 t.1 in
        let here : L × R → Bool = λ t. eq k t.0 in
        let other : L × R → Bool = λ t. not (eq k t.0) in
        let equal : (q : L) → eq k q ≡ false → coefficient eq zero new q ≡ coefficient eq zero old q = λ q p. more q ∙ ap (λ b. cond b (sum (coefficient eq zero old k) c) (coefficient eq zero old q)) p in
        let apart : (t : L × R) → other t ≡ true → eq k t.0 ≡ false = λ t h. not-true (eq k t.0) h in
        let others : total summand (filter other old) ≡ total summand (filter other new) =
        total_same_members summand (filter other old) (filter other new) (Once-select other old (once old is.distinct)) (Once-select other new (once new also.distinct))
        (λ t m. let p = Among_from_select other t old m in Among-select other t new (carried zero value zero_value old new is t p.0 (equal t.0 (apart t p.1))) p.1)
        (λ t m. let p = Among_from_select other t new m in Among-select other t old (carried zero value zero_value new old also t p.0 (sym (equal t.0 (apart t p.1)))) p.1) in
        let before = total_split summand here old in
        let after = total_split summand here new in
        let at_old : total summand (filter here old) ≡ f k (coefficient eq zero old k) = total-at old is.distinct in
        let at_new : total summand (filter here new) ≡ f k (coefficient eq zero new k) = total-at new also.distinct in
        sums (total summand old) (total summand new) _ _ _ _ (f k (coefficient eq zero old k)) (f k (coefficient eq zero new k)) before after others at_old at_new
      where
        sums : (old_total new_total old_here new_here old_other new_other a b : ℤ) → old_total ≡ old_here +ℤ old_other → new_total ≡ new_here +ℤ new_other → old_other ≡ new_other → old_here ≡ a → new_here ≡ b → new_total +ℤ a ≡ old_total +ℤ b
        sums old_total new_total old_here new_here old_other new_other a b p q r s t = omega (arith, ints)
