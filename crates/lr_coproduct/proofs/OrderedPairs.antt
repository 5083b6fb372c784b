-- Lists of terms whose labels are pairs, in the printed order, to which the terms of a list are appended; the label ν of each of these terms is
-- replaced by the pair (first, ν).
use Rattle.std.proofs.Common.{◌≡◌, ℕ, true, ◌&&◌, List, [], ◌∷◌, ◌++◌, append_assoc, refl, sym, ap, ◌∙◌, ◌⊎◌, inl, inr, subst, arith, ℤ, ◌+ℤ◌, ◌*ℤ◌}
use Rattle.std.specs.Prelude.{Option, Some, None}
use Rattle.std.specs.Option.{SomeIff}
use Rattle.std.specs.declared.cmp.Ordering.{Ordering}
use Rattle.std.specs.declared.cmp.Ordering.TheVariants.{Less}
use Rattle.std.specs.Ordering.{ordering_then}
use Rattle.std.proofs.lemmas.Bool.{and_parts, and_from}
use Rattle.std.proofs.lemmas.Cmp.{tied_itself}
use Rattle.std.proofs.lemmas.Int.{ints}
use Rattle.std.proofs.lemmas.List.{map-append}
use Rattle.fraction_laws.specs.Fractions.{whole}
use Rattle.sym_model.specs.Sum.{total, Among}
use Rattle.sym_model.specs.Canonical.{is_reduced}
use Rattle.sym_model.specs.Polynomial.{Same, plus, coefficient as coefficient_of}
use Rattle.sym_model.specs.Expansion.{pair_polynomial}
use Rattle.sym_model.specs.LabelLimits.{is_label, is_pair_label}
use Rattle.sym_model.specs.PrintedOrder.{printed_order, pair_order}
use Rattle.sym_model.specs.WholeTerms.{WholeTermsOf, WholeTerms}
use Rattle.sym_model.proofs.Polynomials.{coefficient_plus}
use Rattle.sym_model.proofs.Sums.{total_map, total_append, Among_from_append, Among_from_map}
use Rattle.sym_model.proofs.WholeTerms.{coefficient_of_combined}
use Rattle.sym_model.proofs.Orders.{printed_order-total}
use Rattle.linear_combinations.specs.Entries.{is_ordered, are_terms, IsCanonicalList}
use Rattle.linear_combinations.proofs.Ordered.{StandsBefore, IsOrdered, is_ordered-from, canonical-ordered, canonical-append}
use Rattle.linear_combinations.proofs.Labels.{pair_order_is_total}
use Rattle.lr_coproduct.specs.PairTerms.{pair_sum, second_sum, with_first, AreBefore}

-- ---- the polynomial of the terms labelled by pairs

pub sum_added : (n k : ℕ) (first : List ℕ) (list : WholeTerms) (old new : WholeTermsOf (List ℕ × List ℕ)) → new ≡ old ++ with_first first list
    → Same (pair_sum n k new) (plus (pair_sum n k old) (second_sum n k first list))
sum_added n k first list old new e α =
    let g : (List ℕ × List ℕ) × ℤ → ℤ = λ t. t.1 *ℤ coefficient_of (pair_polynomial n k t.0) α in
    let all : coefficient_of (pair_sum n k new) α ≡ total g old +ℤ total (λ (t : List ℕ × ℤ). t.1 *ℤ coefficient_of (pair_polynomial n k (first, t.0)) α) list =
    coefficient_of_combined (pair_polynomial n k) new α ∙ ap (total g) e ∙ total_append g old (with_first first list)
    ∙ ap (λ z. total g old +ℤ z) (total_map g (λ (t : List ℕ × ℤ). ((first, t.0), t.1)) list) in
    let was = coefficient_of_combined (pair_polynomial n k) old α in
    let more = coefficient_of_combined (λ (second : List ℕ). pair_polynomial n k (first, second)) list α in
    let p = coefficient_plus (pair_sum n k old) (second_sum n k first list) α in
    omega (arith, ints)

with_first_before : (first label : List ℕ) (list : WholeTerms) → StandsBefore printed_order label list → StandsBefore pair_order (first, label) (with_first first list)
with_first_before first label [] h = tt
with_first_before first label (t ∷ list) h =
    (ap (λ (o : Ordering). ordering_then o (printed_order label t.0)) (tied_itself printed_order-total first) ∙ h.0, with_first_before first label list h.1)

with_first_ordered : (first : List ℕ) (list : WholeTerms) → IsOrdered printed_order list → IsOrdered pair_order (with_first first list)
with_first_ordered first [] h = tt
with_first_ordered first (t ∷ list) h = (with_first_before first t.0 list h.0, with_first_ordered first list h.1)

with_first_terms : (first : List ℕ) (list : WholeTerms) → is_label first ≡ true → are_terms whole is_label list ≡ true → are_terms whole is_pair_label (with_first first list) ≡ true
with_first_terms first [] l h = refl
with_first_terms first (t ∷ list) l h =
    let p = and_parts (is_reduced (whole t.1) && is_label t.0) (are_terms whole is_label list) h in
    let q = and_parts (is_reduced (whole t.1)) (is_label t.0) p.0 in
    and_from (is_reduced (whole t.1) && is_pair_label (first, t.0)) (are_terms whole is_pair_label (with_first first list))
    (and_from (is_reduced (whole t.1)) (is_pair_label (first, t.0)) q.0 (and_from (is_label first) (is_label t.0) l q.1)) (with_first_terms first list l p.1)

pub firsts_added : (first : List ℕ) (list : WholeTerms) (old new : WholeTermsOf (List ℕ × List ℕ)) → new ≡ old ++ with_first first list
    → (t : (List ℕ × List ℕ) × ℤ) → Among t new → Among t old ⊎ (t.0.0 ≡ first)
firsts_added first list old new e t m =
    elim (Among_from_append t old (with_first first list) (subst (λ (l : WholeTermsOf (List ℕ × List ℕ)). Among t l) e m)) [ inl k ↦ inl k | inr k ↦ inr (first_of k) ]
  where
    first_of : Among t (with_first first list) → t.0.0 ≡ first
    first_of k = let s = Among_from_map (λ (u : List ℕ × ℤ). ((first, u.0), u.1)) t list k in ap (λ (u : (List ℕ × List ℕ) × ℤ). u.0.0) s.2

pub canonical_added : (first : List ℕ) (list : WholeTerms) (old new : WholeTermsOf (List ℕ × List ℕ)) → new ≡ old ++ with_first first list → is_label first ≡ true
    → IsCanonicalList printed_order is_label whole list → AreBefore old first → IsCanonicalList pair_order is_pair_label whole old → IsCanonicalList pair_order is_pair_label whole new
canonical_added first list old new e l c before was =
    let p = and_parts (is_ordered printed_order list) (are_terms whole is_label list) c in
    let more = and_from (is_ordered pair_order (with_first first list)) (are_terms whole is_pair_label (with_first first list))
    (is_ordered-from pair_order (with_first first list) (with_first_ordered first list (canonical-ordered printed_order is_label whole printed_order-total.trans list c)))
    (with_first_terms first list l p.1) in
    subst (IsCanonicalList pair_order is_pair_label whole) (sym e) (canonical-append pair_order is_pair_label whole pair_order_is_total.trans old (with_first first list) was more apart)
  where
    apart : (x y : (List ℕ × List ℕ) × ℤ) → Among x old → Among y (with_first first list) → pair_order x.0 y.0 ≡ Less
    apart x y m k =
        let s = Among_from_map (λ (u : List ℕ × ℤ). ((first, u.0), u.1)) y list k in
        let same : y.0.0 ≡ first = ap (λ (u : (List ℕ × List ℕ) × ℤ). u.0.0) s.2 in
        ap (λ (o : Ordering). ordering_then o (printed_order x.0.1 y.0.1)) (ap (printed_order x.0.0) same ∙ before x m)

pub unwrapped : {A : Type 0} (P : Type 0) (o : Option A) (x v : A) → o ≡ Some x → SomeIff o P v → x ≡ v
unwrapped P None x v e h = cc
unwrapped P (Some y) x v e h = let same : y ≡ x = cc in sym same ∙ h.1

-- let `old` be `start` followed by `with_first first done`, and `new` be `old` with the term c·(first, second) appended. Then `new` is `start`
-- followed by `with_first first next`; here `next` is `done` with the term c·second appended
pub next_added : (first : List ℕ) (done next : WholeTerms) (second : List ℕ) (c : ℤ) (start old new : WholeTermsOf (List ℕ × List ℕ)) → done ++ (second, c) ∷ [] ≡ next
    → old ≡ start ++ with_first first done → new ≡ old ++ ((first, second), c) ∷ [] → new ≡ start ++ with_first first next
next_added first done next second c start old new pushed e f =
    f ∙ ap (λ (l : WholeTermsOf (List ℕ × List ℕ)). l ++ ((first, second), c) ∷ []) e
    ∙ append_assoc start (with_first first done) (((first, second), c) ∷ [])
    ∙ ap (λ (l : WholeTermsOf (List ℕ × List ℕ)). start ++ l) (sym (map-append (λ (t : List ℕ × ℤ). ((first, t.0), t.1)) done ((second, c) ∷ [])) ∙ ap (with_first first) pushed)
