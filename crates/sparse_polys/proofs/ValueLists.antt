-- Properties of a list of entries (label, scalar), as properties of the list (label, value of the scalar).
use Rattle.std.proofs.Common.{◌≡◌, Bool, true, false, ◌&&◌, List, [], ◌∷◌, length, pos, suc, refl, sym, ap, ap₂, ◌∙◌, inl, inr, if◌then◌else◌, rules}
use Rattle.std.specs.Prelude.{Option}
use Rattle.std.specs.Ordering.{is_lt}
use Rattle.std.specs.declared.cmp.Ordering.{Ordering}
use Rattle.fraction_laws.specs.Fractions.{whole, fraction_sum}
use Rattle.sym_model.specs.Expansion.{Fraction}
use Rattle.sym_model.specs.Canonical.{is_reduced}
use Rattle.sym_model.specs.Sum.{Among}
use Rattle.linear_combinations.specs.Entries
use Rattle.sparse_polys.specs.Combination.{terms_of, coefficient, are_terms, is_canonical_list, IsCombination, HasMoreAt}
use Rattle.sparse_polys.specs.Refusal.{IsRefused}
use Rattle.sparse_polys.proofs.Coefficients.{coefficient-terms_of, keys-terms_of, value_at}

module _ {L R : Type 0} (value : R → Fraction) where
  pub length_values : (es : List (L × R)) → length (terms_of value es) ≡ length es
  length_values [] = refl
  length_values (e ∷ es) = ap suc (length_values es)

  are_terms_values : (is_label : L → Bool) (es : List (L × R)) → are_terms is_label (terms_of value es) ≡ Entries.are_terms value is_label es
  are_terms_values is_label [] = refl
  are_terms_values is_label (e ∷ es) = ap (λ b. (is_reduced (value e.1) && is_label e.0) && b) (are_terms_values is_label es)

  is_ordered_values : (order : L → L → Ordering) (es : List (L × R)) → Entries.is_ordered order (terms_of value es) ≡ Entries.is_ordered order es
  is_ordered_values order [] = refl
  is_ordered_values order (e ∷ []) = refl
  is_ordered_values order (e ∷ f ∷ es) = ap (λ b. is_lt (order e.0 f.0) && b) (is_ordered_values order (f ∷ es))

  pub combination_values : (eq : L → L → Bool) (is_label : L → Bool) (es : List (L × R)) → Entries.IsCombination eq is_label value es → IsCombination eq is_label (terms_of value es)
  combination_values eq is_label es is = search (rules, keys-terms_of, are_terms_values)

  pub values_combination : (eq : L → L → Bool) (is_label : L → Bool) (es : List (L × R)) → IsCombination eq is_label (terms_of value es) → Entries.IsCombination eq is_label value es
  values_combination eq is_label es is = search (rules, keys-terms_of, are_terms_values)

  pub canonical_values : (order : L → L → Ordering) (is_label : L → Bool) (es : List (L × R)) → is_canonical_list order is_label (terms_of value es) ≡ Entries.is_canonical_list order is_label value es
  canonical_values order is_label es = ap₂ (λ a b. a && b) (is_ordered_values order es) (are_terms_values is_label es)

  pub among_values : (t : L × R) (es : List (L × R)) → Among t es → Among (t.0, value t.1) (terms_of value es)
  among_values t [] m = absurd m
  among_values t (e ∷ es) (inl h) = inl (ap (λ (u : L × R). (u.0, value u.1)) h)
  among_values t (e ∷ es) (inr m) = inr (among_values t es m)

  module _ (zero : R) (none : value zero ≡ whole (pos 0)) (eq : L → L → Bool) where
    pub coefficient_values : (es : List (L × R)) (k : L) → value (Entries.coefficient eq zero es k) ≡ coefficient eq (terms_of value es) k
    coefficient_values es k = search (rules, coefficient-terms_of, value_at)

    module _ (sum : R → R → R) (sums : (a b : R) → value (sum a b) ≡ fraction_sum (value a) (value b)) where
      pub more_values : (old : List (L × R)) (k : L) (c : R) (new : List (L × R)) → Entries.HasMoreAt eq zero sum old k c new → HasMoreAt eq (terms_of value old) k (value c) (terms_of value new)
      more_values old k c new h q = sym (coefficient_values new q) ∙ ap value (h q) ∙ by (eq k q)
        where
          by : (b : Bool) → value (if b then sum (Entries.coefficient eq zero old k) c else Entries.coefficient eq zero old q)
              ≡ (if b then fraction_sum (coefficient eq (terms_of value old) k) (value c) else coefficient eq (terms_of value old) q)
          by true = sums (Entries.coefficient eq zero old k) c ∙ ap (λ (r : Fraction). fraction_sum r (value c)) (coefficient_values old k)
          by false = coefficient_values old q

module _ {R : Type 0} (value : R → Fraction) (is_held : R → Type 0) (checked : R → R → Option R) where
  pub refused_values : (a b : R) (x y : Fraction) → value a ≡ x → value b ≡ y → Entries.IsRefused is_held checked a b → IsRefused is_held value checked x y
  refused_values a b x y p q r = search rules
