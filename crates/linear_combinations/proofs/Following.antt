-- A list of terms is canonical if its labels are in strictly increasing order and each term satisfies `is_term` (its label is within the limits of
-- its type, and its coefficient is in lowest terms and not 0). A term *may follow* a label if the term satisfies `is_term` and has a strictly greater
-- label. A list is canonical if and only if each term may follow the label of the term before it (`each_follows`).
use Rattle.std.proofs.Common.{◌≡◌, ◌≤◌, ◌<◌, ℕ, ◌+◌, arith, suc, Bool, true, false, ◌&&◌, List, [], ◌∷◌, refl, sym, ap, ◌∙◌, subst, drop, length, get_or, Some, None, Option, pos}
use Rattle.std.specs.Prelude.{not, IsTrue, ◌↔◌}
use Rattle.std.specs.Ordering.{is_lt}
use Rattle.std.proofs.Math.Seq.{drop-cons}
use Rattle.std.proofs.lemmas.List.{drop_all}
use Rattle.std.specs.declared.cmp.Ordering.{Ordering}
use Rattle.sym_model.specs.Expansion.{Fraction}
use Rattle.sym_model.specs.Canonical.{is_reduced}
use Rattle.fraction_laws.specs.Fractions.{whole, InLowestTerms}
use Rattle.linear_combinations.specs.Entries.{is_ordered, are_terms, is_canonical_list, is_next, each_follows}
use Rattle.linear_combinations.proofs.LowestTerms.{is_reduced-lowest}

pub reduced-unless_zero : (c : Fraction) (is_zero : Bool) → InLowestTerms c → (IsTrue is_zero ↔ (c ≡ whole (pos 0))) → not is_zero ≡ is_reduced c
reduced-unless_zero c true lowest tells = subst (λ (d : Fraction). false ≡ is_reduced d) (sym (tells.0 refl)) refl
reduced-unless_zero c false lowest tells = sym (is_reduced-lowest c lowest (λ e. let clash : false ≡ true = tells.1 e in cc))

pub all_three : (later reduced within : Bool) → later ≡ true → within ≡ true → reduced ≡ (later && (reduced && within))
all_three later true within h k = sym (ap (λ b. b && within) h ∙ k)
all_three later false within h k = sym (ap (λ b. b && false) h)

regroup : (later reduced within ordered rest : Bool)
    → ((later && (reduced && within)) && (ordered && rest)) ≡ ((later && ordered) && ((reduced && within) && rest))
regroup true true true ordered rest = refl
regroup true true false true rest = refl
regroup true true false false rest = refl
regroup true false within true rest = refl
regroup true false within false rest = refl
regroup false reduced within ordered rest = refl

follows-label : {L R : Type 0} (order : L → L → Ordering) (is_label : L → Bool) (value : R → Fraction) (previous : L) (c : R) (terms : List (L × R))
    → each_follows order is_label value (Some previous) terms ≡ (is_ordered order ((previous, c) ∷ terms) && are_terms value is_label terms)
follows-label order is_label value previous c [] = refl
follows-label order is_label value previous c (t ∷ terms) =
    ap (λ b. is_next order is_label value (Some previous) t && b) (follows-label order is_label value t.0 t.1 terms)
    ∙ regroup (is_lt (order previous t.0)) (is_reduced (value t.1)) (is_label t.0) (is_ordered order (t ∷ terms)) (are_terms value is_label terms)

pub canonical-follows : {L R : Type 0} (order : L → L → Ordering) (is_label : L → Bool) (value : R → Fraction) (terms : List (L × R))
    → each_follows order is_label value None terms ≡ is_canonical_list order is_label value terms
canonical-follows order is_label value [] = refl
canonical-follows order is_label value (t ∷ terms) =
    ap (λ b. (is_reduced (value t.1) && is_label t.0) && b) (follows-label order is_label value t.0 t.1 terms)
    ∙ regroup true (is_reduced (value t.1)) (is_label t.0) (is_ordered order (t ∷ terms)) (are_terms value is_label terms)

pairs-from : {L R : Type 0} (pairs : List (L × R)) (at : ℕ) (p : L × R) → at < length pairs
    → p ≡ get_or pairs at p → drop at pairs ≡ p ∷ drop (at + 1) pairs
pairs-from pairs at p below is =
    let next : suc at ≡ at + 1 = omega arith in
    drop-cons pairs at p below ∙ ap (λ q. q ∷ drop (suc at) pairs) (sym is) ∙ ap (λ k. p ∷ drop k pairs) next

module _ {L R : Type 0} (order : L → L → Ordering) (is_label : L → Bool) (value : R → Fraction) (pairs : List (L × R)) (at : ℕ)
    (previous : Option L)
    (so_far : each_follows order is_label value None pairs ≡ each_follows order is_label value previous (drop at pairs)) where
  pub follows-not : (p : L × R) → at < length pairs → p ≡ get_or pairs at p → is_next order is_label value previous p ≡ false
      → false ≡ is_canonical_list order is_label value pairs
  follows-not p below is other =
      sym (sym (canonical-follows order is_label value pairs) ∙ so_far
      ∙ ap (each_follows order is_label value previous) (pairs-from pairs at p below is)
      ∙ ap (λ b. b && each_follows order is_label value (Some p.0) (drop (at + 1) pairs)) other)

  pub follows-all : length pairs ≤ at → true ≡ is_canonical_list order is_label value pairs
  follows-all none =
      sym (sym (canonical-follows order is_label value pairs) ∙ so_far
      ∙ ap (each_follows order is_label value previous) (drop_all at pairs none))
