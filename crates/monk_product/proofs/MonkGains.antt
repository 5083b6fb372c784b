-- A list of terms here is a sum of Schubert polynomials S_w with integer coefficients. Lemmas on the terms that Monk's rule adds to such a list for
-- x_r·S_w, and on the product of such a list and x_r.
use Rattle.std.proofs.Common.{◌≡◌, ℕ, ◌+◌, ◌*◌, ◌^◌, ◌≤◌, max, Bool, true, false, cond, List, [], ◌∷◌, ◌++◌, length, refl, sym, ap, ap₂, ◌∙◌, inl, inr, arith, ℤ, pos, negsuc, ◌*ℤ◌}
use Rattle.std.specs.Prelude.{nat_abs, neg_ℤ, nat_eq}
use Rattle.std.specs.Cmp.Lexicographic.{pointwise, nat_list_eq_equiv}
use Rattle.std.proofs.lemmas.Bool.{and_parts}
use Rattle.fraction_laws.specs.Fractions.{whole}
use Rattle.sym_model.specs.DividedDifference.{variable_in}
use Rattle.sym_model.specs.LabelLimits.{is_permutation_label}
use Rattle.sym_model.specs.Permutation.{IsOneLine, covers_up, covers_down}
use Rattle.sym_model.specs.Polynomial.{join, one, pair, same, times}
use Rattle.sym_model.specs.Schubert.{schubert_in}
use Rattle.sym_model.specs.Sum.{Among}
use Rattle.sym_model.specs.WholeTerms.{combined, WholeTerms}
use Rattle.sym_model.proofs.Exponents.{same_from}
use Rattle.sym_model.proofs.Polynomials.{pair_ext, pair_factor, pair_total, pair_times}
use Rattle.sym_model.proofs.Ring.{product-one}
use Rattle.sym_model.proofs.Sums.{total_among, total_ext}
use Rattle.sym_model.proofs.WholeTerms.{pair_of_combined}
use Rattle.linear_combinations.proofs.Labels.{same_partition}
use Rattle.linear_combinations.specs.Gains.{mass_at, scaled, replaced, Gains, Overflows}
use Rattle.linear_combinations.proofs.Totals.{term-among}
use Rattle.linear_combinations.proofs.Gains.{replaced_over, scaled_append, mass_at_append, over_only_within, mass_at_within}
use Rattle.sym_model.proofs.WholeTerms.{labels_append}
use Rattle.linear_combinations.proofs.Masses.{scaled_each, labels_each, labels_replaced, mass_replaced, mass_at_replaced, labels_gained}
use Rattle.transition_walk.proofs.Covers.{up_within, down_within}
use Rattle.schubert_laws.proofs.PermutationLabels.{label_one_line}
use Rattle.monk_product.specs.Monk.{IsPermutationTable, AreShort, over, mass, each_with, monk_terms, over_covers, greatest_length, count_of}
use Rattle.transition_laws.proofs.MonkLaws.{over_terms, mass_terms}
use Rattle.monk_product.proofs.MonkSteps.{pair_monk}
use Rattle.monk_product.proofs.OneCover.{one_cover}
use Rattle.linear_combinations.proofs.Weighed.{gains_mass}
use Rattle.sym_model.proofs.Integers.{product-neg_one}

-- the covers w·t_rj (j > r) with the coefficient c, followed by the covers w·t_ir (i < r) with -c, are the terms of c·x_r·S_w in Monk's rule
pub monk_scaled : (c : ℤ) (r : ℕ) (w : List ℕ) → each_with c (covers_up r w) ++ each_with (neg_ℤ c) (covers_down r w) ≡ scaled c (monk_terms r w)
monk_scaled c r w =
    sym (scaled_append c (each_with (pos 1) (covers_up r w)) (each_with (negsuc 0) (covers_down r w))
    ∙ ap₂ (λ x y. x ++ y) (scaled_each c (pos 1) (covers_up r w) ∙ ap (λ z. each_with z (covers_up r w)) (product-one c))
    (scaled_each c (negsuc 0) (covers_down r w) ∙ ap (λ z. each_with z (covers_down r w)) (product-neg_one c)))

at_count : (x : List ℕ) (a : ℤ) (vs : List (List ℕ)) → nat_abs a ≡ 1 → mass_at (pointwise nat_eq) x (each_with a vs) ≤ count_of x vs
at_count x a [] one = omega arith
at_count x a (v ∷ vs) one = by (pointwise nat_eq x v) refl (at_count x a vs one)
  where
    by : (b : Bool) → pointwise nat_eq x v ≡ b → mass_at (pointwise nat_eq) x (each_with a vs) ≤ count_of x vs
        → cond b (nat_abs a) 0 + mass_at (pointwise nat_eq) x (each_with a vs) ≤ cond (same v x) 1 0 + count_of x vs
    by true e r = let s = ap (λ (t : Bool). cond {A = ℕ} t 1 0) (same_from v x (sym (same_partition x v e))) in omega arith
    by false e r = omega arith

-- each permutation occurs at most once among the terms of x_r·S_w by Monk's rule
once_terms : (r : ℕ) (w x : List ℕ) → IsOneLine w → 1 ≤ r → mass_at (pointwise nat_eq) x (monk_terms r w) ≤ 1
once_terms r w x o h =
    let a = mass_at_append (pointwise nat_eq) x (each_with (pos 1) (covers_up r w)) (each_with (negsuc 0) (covers_down r w)) in
    let b = at_count x (pos 1) (covers_up r w) refl in
    let c = at_count x (negsuc 0) (covers_down r w) refl in
    let one = one_cover r w x o h in
    omega arith

module _ (r : ℕ) (first : 1 ≤ r) (list : WholeTerms) where
  pub over_product : (φ : List ℕ → ℤ) → over φ (replaced (monk_terms r) list) ≡ over (over_covers r φ) list
  over_product φ =
      replaced_over (monk_terms r) φ list
      ∙ total_ext (λ (t : List ℕ × ℤ). t.1 *ℤ over φ (monk_terms r t.0)) (λ (t : List ℕ × ℤ). t.1 *ℤ over_covers r φ t.0) (λ t. ap (λ z. t.1 *ℤ z) (over_terms r φ t.0)) list

  pub one_line : IsPermutationTable list → (t : List ℕ × ℤ) → Among t list → IsOneLine t.0
  one_line is t m = label_one_line t.0 (and_parts _ (is_permutation_label t.0) (term-among is_permutation_label whole list is.proper t m)).1

  module _ (old new : WholeTerms) where
    pub product_mass : IsPermutationTable new → Gains old (replaced (monk_terms r) list) new → (most : ℕ) → AreShort most list → r ≤ most → mass new ≤ mass old + mass list * most
    product_mass is gains most short last =
        let a = gains_mass same_partition nat_list_eq_equiv old (replaced (monk_terms r) list) new is gains in
        let b = mass_replaced (monk_terms r) most list (λ t m. let s = short t m in let n = mass_terms r t.0 first in omega arith) in
        omega arith

    pub product_short : IsPermutationTable new → Gains old (replaced (monk_terms r) list) new → (most : ℕ) → AreShort most list → r ≤ most → AreShort (most + 1) old → AreShort (most + 1) new
    product_short is gains most short last was =
        labels_gained nat_list_eq_equiv same_partition old (replaced (monk_terms r) list) new is gains (λ x. length x ≤ most + 1) was
        (labels_replaced (monk_terms r) (λ x. length x ≤ most + 1) list
        (λ t m.
        let s = short t m in
        labels_append (λ x. length x ≤ most + 1) (each_with (pos 1) (covers_up r t.0)) (each_with (negsuc 0) (covers_down r t.0))
        (labels_each (λ x. length x ≤ most + 1) (pos 1) (covers_up r t.0) (λ x i. up_within r (most + 1) t.0 x first (omega arith) i))
        (labels_each (λ x. length x ≤ most + 1) (negsuc 0) (covers_down r t.0) (λ x i. down_within r (most + 1) t.0 x (omega arith) i))))

    pub product_large : IsPermutationTable list → Overflows (pointwise nat_eq) old (replaced (monk_terms r) list) → 2 ^ 127 ≤ mass old + mass list
    product_large is o =
        let l = o.1 in
        let a = over_only_within (pointwise nat_eq) o.0 old in
        let b = mass_at_within (pointwise nat_eq) o.0 old in
        let d = mass_at_replaced (monk_terms r) (pointwise nat_eq) o.0 list (λ t m. once_terms r t.0 o.0 (one_line is t m) first) in
        omega arith

  -- in n variables, x_r times a sum of terms c·S_w is the sum in which each S_w is replaced by the terms of x_r·S_w in Monk's rule; two polynomials
  -- are compared by the sums of c·φ(α) over their terms c·x^α (`pair`)
  pub pair_product : (n : ℕ) (φ : List ℕ → ℤ) → IsPermutationTable list → over (over_covers r (λ w. pair (schubert_in w n) φ)) list ≡ pair (times (variable_in r n) (combined (λ w. schubert_in w n) list)) φ
  pair_product n φ is =
      sym (pair_times (variable_in r n) (combined (λ w. schubert_in w n) list) φ
      ∙ pair_ext (variable_in r n) (λ α. pair (combined (λ w. schubert_in w n) list) (λ β. φ (join α β)))
      (λ α. over (λ w. pair (schubert_in w n) (λ β. φ (join α β))) list) (λ α. pair_of_combined (λ w. schubert_in w n) list (λ β. φ (join α β)))
      ∙ pair_total (variable_in r n) (λ (t : List ℕ × ℤ) α. t.1 *ℤ pair (schubert_in t.0 n) (λ β. φ (join α β))) list
      ∙ total_among (λ (t : List ℕ × ℤ). pair (variable_in r n) (λ α. t.1 *ℤ pair (schubert_in t.0 n) (λ β. φ (join α β))))
      (λ (t : List ℕ × ℤ). t.1 *ℤ over_covers r (λ w. pair (schubert_in w n) φ) t.0) list
      (λ t m.
      pair_factor t.1 (variable_in r n) (λ α. pair (schubert_in t.0 n) (λ β. φ (join α β)))
      ∙ ap (λ z. t.1 *ℤ z)
      (sym (pair_times (variable_in r n) (schubert_in t.0 n) φ)
      ∙ pair_monk n r t.0 φ (one_line is t m) first)))

pub longest : (terms : WholeTerms) (r : ℕ) → AreShort (max r (greatest_length terms)) terms
longest [] r t m = absurd m
longest (u ∷ terms) r t (inl e) = let l = ap (λ (v : List ℕ × ℤ). length v.0) e in omega arith
longest (u ∷ terms) r t (inr m) = let l = longest terms r t m in omega arith
