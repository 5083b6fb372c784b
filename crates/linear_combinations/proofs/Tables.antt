-- Tables, which are lists of entries (label, coefficient): the insertion and the removal of a label, and the test `is_term` of an entry: its label is
-- within the limits of its type, and its coefficient is in lowest terms and not 0. A *combination* is a table with distinct labels whose entries
-- satisfy `is_term`. A ring *holds* a coefficient if its machine type can represent the coefficient (`is_held`).
use Rattle.std.proofs.Common.{◌≡◌, Bool, true, false, ◌&&◌, cond, List, [], ◌∷◌, refl, sym, ap, ◌∙◌, subst, if◌then◌else◌}
use Rattle.std.specs.Prelude.{Option, Some, None}
use Rattle.std.specs.Cmp.{IsEquivalence}
use Rattle.std.specs.List.{IsDistinct}
use Rattle.std.specs.Option.{unwrap_or}
use Rattle.std.specs.Map.{lookup, keys_of}
use Rattle.std.proofs.lemmas.Bool.{and_parts, and_from}
use Rattle.std.proofs.lemmas.Map.{lookup-none}
use Rattle.std.proofs.lemmas.Map.Keys.{IsDistinct-tail}
use Rattle.std.proofs.lemmas.Map.Entries.{none_past_head}
use Rattle.fraction_laws.specs.Fractions.{InLowestTerms}
use Rattle.sym_model.specs.Expansion.{Fraction}
use Rattle.sym_model.specs.Canonical.{is_reduced}
use Rattle.linear_combinations.proofs.LowestTerms.{lowest-is_reduced}
use Rattle.linear_combinations.specs.Entries.{coefficient, are_terms, AreHeld, IsCombination, HasMoreAt}

module _ {L R : Type 0} {eq : L → L → Bool} (laws : IsEquivalence eq) (same : (x y : L) → eq x y ≡ true → x ≡ y) (is_label : L → Bool) (value : R → Fraction) where
  pub is_term-found : (es : List (L × R)) → are_terms value is_label es ≡ true → (k : L) (c : R) → lookup (eq k) es ≡ Some c → (is_reduced (value c) && is_label k) ≡ true
  is_term-found [] h k c found = cc
  is_term-found (e ∷ es) h k c found = by (eq k e.0) refl found (is_term-found es (and_parts _ _ h).1 k c)
    where
      parts : ((is_reduced (value e.1) && is_label e.0) ≡ true) × (are_terms value is_label es ≡ true)
      parts = and_parts _ _ h

      here : k ≡ e.0 → e.1 ≡ c → (is_reduced (value c) && is_label k) ≡ true
      here p q = ap (λ x. is_reduced (value c) && is_label x) p ∙ ap (λ x. is_reduced (value x) && is_label e.0) (sym q) ∙ parts.0

      by : (b : Bool) → eq k e.0 ≡ b → cond b (Some e.1) (lookup (eq k) es) ≡ Some c → (lookup (eq k) es ≡ Some c → (is_reduced (value c) && is_label k) ≡ true) → (is_reduced (value c) && is_label k) ≡ true
      by true p found rest = here (same k e.0 p) cc
      by false p found rest = rest found

  pub are_terms-found : (es : List (L × R)) → IsDistinct eq (keys_of es) → ((k : L) (c : R) → lookup (eq k) es ≡ Some c → (is_reduced (value c) && is_label k) ≡ true) → are_terms value is_label es ≡ true
  are_terms-found [] distinct h = refl
  are_terms-found (e ∷ es) distinct h =
      and_from _ _ (h e.0 e.1 (ap (λ b. cond b (Some e.1) (lookup (eq e.0) es)) (laws.refl e.0)))
      (are_terms-found es (IsDistinct-tail eq e.0 (keys_of es) distinct) later)
    where
      later : (k : L) (c : R) → lookup (eq k) es ≡ Some c → (is_reduced (value c) && is_label k) ≡ true
      later k c found = by (eq k e.0) refl
        where
          by : (b : Bool) → eq k e.0 ≡ b → (is_reduced (value c) && is_label k) ≡ true
          by true p = let none = lookup-none (eq k) es (none_past_head laws k e es distinct p) in cc
          by false p = h k c (ap (λ b. cond b (Some e.1) (lookup (eq k) es)) p ∙ found)

  pub IsCombination-found : (es : List (L × R)) → IsDistinct eq (keys_of es) → ((k : L) (c : R) → lookup (eq k) es ≡ Some c → (is_reduced (value c) && is_label k) ≡ true) → IsCombination eq is_label value es
  IsCombination-found es distinct h = record { distinct = distinct; proper = are_terms-found es distinct h }

  pub lowest-coefficient : (zero : R) → InLowestTerms (value zero) → (es : List (L × R)) → are_terms value is_label es ≡ true → (k : L) → InLowestTerms (value (coefficient eq zero es k))
  lowest-coefficient zero low [] h k = low
  lowest-coefficient zero low (t ∷ es) h k = by (eq k t.0) (lowest-coefficient zero low es (and_parts _ _ h).1 k)
    where
      parts : (is_reduced (value t.1) && is_label t.0 ≡ true) × (are_terms value is_label es ≡ true)
      parts = and_parts _ _ h

      by : (b : Bool) → InLowestTerms (value (coefficient eq zero es k)) → InLowestTerms (value (unwrap_or (cond b (Some t.1) (lookup (eq k) es)) zero))
      by true rest = lowest-is_reduced (value t.1) (and_parts _ _ parts.0).0
      by false rest = rest

  module _ (old new : List (L × R)) (k : L) where
    pub IsCombination-put : (v : R) → IsCombination eq is_label value old → (is_reduced (value v) && is_label k) ≡ true → IsDistinct eq (keys_of new) → ((q : L) → lookup (eq q) new ≡ cond (eq k q) (Some v) (lookup (eq q) old)) → IsCombination eq is_label value new
    IsCombination-put v was passes distinct finds = IsCombination-found new distinct (λ q w found. by q w (eq k q) refl (sym (finds q) ∙ found))
      where
        by : (q : L) (w : R) (b : Bool) → eq k q ≡ b → cond b (Some v) (lookup (eq q) old) ≡ Some w → (is_reduced (value w) && is_label q) ≡ true
        by q w true p e =
            let here : v ≡ w = cc in
            ap (λ x. is_reduced (value w) && is_label x) (sym (same k q p)) ∙ ap (λ x. is_reduced (value x) && is_label k) (sym here) ∙ passes
        by q w false p e = is_term-found old was.proper q w e

    pub IsCombination-taken : IsCombination eq is_label value old → IsDistinct eq (keys_of new) → ((q : L) → lookup (eq q) new ≡ cond (eq k q) None (lookup (eq q) old)) → IsCombination eq is_label value new
    IsCombination-taken was distinct finds = IsCombination-found new distinct (λ q w found. by q w (eq k q) (sym (finds q) ∙ found))
      where
        by : (q : L) (w : R) (b : Bool) → cond b None (lookup (eq q) old) ≡ Some w → (is_reduced (value w) && is_label q) ≡ true
        by q w true e = cc
        by q w false e = is_term-found old was.proper q w e

module _ {L R : Type 0} (eq : L → L → Bool) (zero : R) (sum : R → R → R) where
  pub HasMoreAt-found : (old new : List (L × R)) (k : L) (o : Option R) (c : R) → unwrap_or o zero ≡ sum (coefficient eq zero old k) c → ((q : L) → lookup (eq q) new ≡ cond (eq k q) o (lookup (eq q) old)) → HasMoreAt eq zero sum old k c new
  HasMoreAt-found old new k o c total finds q = ap (λ x. unwrap_or x zero) (finds q) ∙ by (eq k q)
    where
      by : (b : Bool) → unwrap_or (cond b o (lookup (eq q) old)) zero ≡ (if b then sum (coefficient eq zero old k) c else coefficient eq zero old q)
      by true = total
      by false = refl

module _ {L R : Type 0} (eq : L → L → Bool) (zero : R) (is_held : R → Type 0) where
  pub held_nothing : is_held zero → AreHeld eq zero is_held []
  held_nothing h = record { at_label = λ k. h }

  pub held_found : (old new : List (L × R)) (k : L) (o : Option R) → AreHeld eq zero is_held old → is_held (unwrap_or o zero)
      → ((q : L) → lookup (eq q) new ≡ cond (eq k q) o (lookup (eq q) old)) → AreHeld eq zero is_held new
  held_found old new k o was here finds = record { at_label = λ q. subst is_held (sym (ap (λ x. unwrap_or x zero) (finds q))) (by q (eq k q)) }
    where
      by : (q : L) (b : Bool) → is_held (unwrap_or (cond b o (lookup (eq q) old)) zero)
      by q true = here
      by q false = was.at_label q

  pub held_same : (old new : List (L × R)) → ((q : L) → coefficient eq zero new q ≡ coefficient eq zero old q) → AreHeld eq zero is_held old → AreHeld eq zero is_held new
  held_same old new equal was = record { at_label = λ q. subst is_held (sym (equal q)) (was.at_label q) }
