-- The terms that are added to a list when (x_r - y_c)·y^e·S_w is computed, and the product of a list of terms y^e·S_w and x_r - y_c.
use Rattle.std.proofs.Common.{◌≡◌, ℕ, ◌+◌, ◌*◌, ◌^◌, ◌≤◌, max, List, [], ◌∷◌, ◌++◌, length, refl, sym, ap, ap₂, ◌∙◌, subst, inl, inr, arith, ℤ, pos, negsuc, ◌*ℤ◌}
use Rattle.std.specs.Prelude.{nat_abs, neg_ℤ, ◌&&◌}
use Rattle.std.specs.Cmp.{IsEquivalence}
use Rattle.std.specs.Cmp.Lexicographic.{nat_list_eq_equiv}
use Rattle.std.proofs.lemmas.Bool.{and_parts}
use Rattle.fraction_laws.specs.Fractions.{whole}
use Rattle.sym_model.specs.DividedDifference.{raised}
use Rattle.sym_model.specs.DoubleSchubert.{difference_in, shifted_in}
use Rattle.sym_model.specs.LabelLimits.{is_permutation_label, is_monomial_label, is_shifted_label}
use Rattle.sym_model.specs.Permutation.{IsOneLine, letter, covers_up, covers_down}
use Rattle.sym_model.specs.Polynomial.{join, pair, times}
use Rattle.sym_model.specs.Sum.{Among}
use Rattle.sym_model.specs.WholeTerms.{combined}
use Rattle.sym_model.proofs.Polynomials.{pair_ext, pair_factor, pair_total, pair_times}
use Rattle.sym_model.proofs.Ring.{product-one}
use Rattle.sym_model.proofs.Sums.{total_among, total_ext}
use Rattle.sym_model.proofs.WholeTerms.{pair_of_combined}
use Rattle.double_schubert_laws.specs.Factors.{over_factor}
use Rattle.double_schubert_laws.proofs.ShiftedStep.{shifted_step}
use Rattle.linear_combinations.proofs.Labels.{same_pair}
use Rattle.linear_combinations.specs.Gains.{over, mass, scaled, replaced, HaveLabels, Gains, Overflows}
use Rattle.linear_combinations.proofs.Gains.{scaled_append, replaced_over, gains_both, overflows_both, overflows_more, overflows_as, overflows_alone, mass_at_append}
use Rattle.linear_combinations.proofs.Masses.{mass_replaced, labels_replaced, labels_gained}
use Rattle.linear_combinations.proofs.Totals.{term-among}
use Rattle.schubert_laws.proofs.PermutationLabels.{label_one_line}
use Rattle.transition_laws.specs.Shifts.{ShiftedSum, IsWithin, IsShiftedTable, equal, each_beside, factor_terms, greatest_length}
use Rattle.transition_laws.proofs.FactorLaws.{over_terms, mass_terms, labels_terms}
use Rattle.sym_model.proofs.Integers.{product-neg_one}

pub label_laws : IsEquivalence equal
label_laws = record {
  refl = λ x. ap₂ (λ s t. s && t) (nat_list_eq_equiv.refl x.0) (nat_list_eq_equiv.refl x.1);
  symm = λ x y. ap₂ (λ s t. s && t) (nat_list_eq_equiv.symm x.0 y.0) (nat_list_eq_equiv.symm x.1 y.1);
  congr = λ x y z h.
      let p = and_parts _ _ h in
      ap₂ (λ s t. s && t) (nat_list_eq_equiv.congr x.0 y.0 z.0 p.0) (nat_list_eq_equiv.congr x.1 y.1 z.1 p.1);
}

-- ---- the terms of (x_r - y_c)·y^e·S_w, as four lists that are added one after another

scaled_beside : (k a : ℤ) (e : List ℕ) (vs : List (List ℕ)) → scaled k (each_beside a e vs) ≡ each_beside (k *ℤ a) e vs
scaled_beside k a e [] = refl
scaled_beside k a e (v ∷ vs) = ap (λ (l : ShiftedSum). ((v, e), k *ℤ a) ∷ l) (scaled_beside k a e vs)

-- the list of the terms k·y^e·S_v for v in `up`, `minus`·y^e·S_v for v in `down`, k·y^more·S_w and `minus`·y^less·S_w, with (w, e) the given label.
-- It is k times (x_r - y_c)·y^e·S_w if minus = -k, `up` is `covers_up r w`, `down` is `covers_down r w`, y^more = y_w(r)·y^e and y^less = y_c·y^e
-- (`factor_scaled`)
abbrev pub added : ℤ → ℤ → List ℕ × List ℕ → List (List ℕ) → List (List ℕ) → List ℕ → List ℕ → ShiftedSum
added k minus label up down more less =
    each_beside k label.1 up ++ (each_beside minus label.1 down ++ (((label.0, more), k) ∷ ((label.0, less), minus) ∷ []))

pub factor_scaled : (k minus : ℤ) (r c letter_is : ℕ) (label : List ℕ × List ℕ) (up down : List (List ℕ)) (more less : List ℕ) → minus ≡ neg_ℤ k → letter_is ≡ letter label.0 r
    → up ≡ covers_up r label.0 → down ≡ covers_down r label.0 → more ≡ raised letter_is label.1 → less ≡ raised c label.1
    → added k minus label up down more less ≡ scaled k (factor_terms r c label)
factor_scaled k minus r c letter_is label up down more less m l u d a b =
    ap (λ z. added k z label up down more less) m
    ∙ ap₂ (λ x y. added k (neg_ℤ k) label x y more less) u d
    ∙ ap₂ (λ x y. added k (neg_ℤ k) label (covers_up r label.0) (covers_down r label.0) x y) (a ∙ ap (λ i. raised i label.1) l) b
    ∙ ap₂ (λ x y. added x y label (covers_up r label.0) (covers_down r label.0) (raised (letter label.0 r) label.1) (raised c label.1)) (sym (product-one k)) (sym (product-neg_one k))
    ∙ sym
    (scaled_append k (each_beside (pos 1) label.1 (covers_up r label.0)) (each_beside (negsuc 0) label.1 (covers_down r label.0) ++ rest)
    ∙ ap₂ (λ x y. x ++ y) (scaled_beside k (pos 1) label.1 (covers_up r label.0))
    (scaled_append k (each_beside (negsuc 0) label.1 (covers_down r label.0)) rest
    ∙ ap (λ x. x ++ scaled k rest) (scaled_beside k (negsuc 0) label.1 (covers_down r label.0))))
  where
    rest : ShiftedSum
    rest = ((label.0, raised (letter label.0 r) label.1), pos 1) ∷ ((label.0, raised c label.1), negsuc 0) ∷ []

-- if the four lists of terms of which the list `added` consists are added to the sum s0 one after another, the result is the sum of s0 and
-- the list `added`
module _ (k minus : ℤ) (label : List ℕ × List ℕ) (up down : List (List ℕ)) (more less : List ℕ) (s0 s1 s2 s3 : ShiftedSum) where
  pub added_gains : (s4 : ShiftedSum) → Gains s0 (each_beside k label.1 up) s1 → Gains s1 (each_beside minus label.1 down) s2
      → Gains s2 (((label.0, more), k) ∷ []) s3 → Gains s3 (((label.0, less), minus) ∷ []) s4 → Gains s0 (added k minus label up down more less) s4
  added_gains s4 a b c d =
      gains_both s0 (each_beside k label.1 up) s1 (each_beside minus label.1 down ++ (((label.0, more), k) ∷ ((label.0, less), minus) ∷ [])) s4 a
      (gains_both s1 (each_beside minus label.1 down) s2 (((label.0, more), k) ∷ ((label.0, less), minus) ∷ []) s4 b
      (gains_both s2 (((label.0, more), k) ∷ []) s3 (((label.0, less), minus) ∷ []) s4 c d))

  pub overflow_first : Overflows equal s0 (each_beside k label.1 up) → Overflows equal s0 (added k minus label up down more less)
  overflow_first o = overflows_more equal s0 (each_beside k label.1 up) (each_beside minus label.1 down ++ (((label.0, more), k) ∷ ((label.0, less), minus) ∷ [])) o

  pub overflow_second : Gains s0 (each_beside k label.1 up) s1 → Overflows equal s1 (each_beside minus label.1 down) → Overflows equal s0 (added k minus label up down more less)
  overflow_second a o =
      overflows_both equal s0 (each_beside k label.1 up) s1 (each_beside minus label.1 down ++ (((label.0, more), k) ∷ ((label.0, less), minus) ∷ [])) a
      (overflows_more equal s1 (each_beside minus label.1 down) (((label.0, more), k) ∷ ((label.0, less), minus) ∷ []) o)

  pub overflow_third : Gains s0 (each_beside k label.1 up) s1 → Gains s1 (each_beside minus label.1 down) s2 → Overflows equal s2 (((label.0, more), k) ∷ [])
      → Overflows equal s0 (added k minus label up down more less)
  overflow_third a b o =
      overflows_both equal s0 (each_beside k label.1 up) s1 (each_beside minus label.1 down ++ (((label.0, more), k) ∷ ((label.0, less), minus) ∷ [])) a
      (overflows_both equal s1 (each_beside minus label.1 down) s2 (((label.0, more), k) ∷ ((label.0, less), minus) ∷ []) b
      (overflows_more equal s2 (((label.0, more), k) ∷ []) (((label.0, less), minus) ∷ []) o))

  pub overflow_last : Gains s0 (each_beside k label.1 up) s1 → Gains s1 (each_beside minus label.1 down) s2 → Gains s2 (((label.0, more), k) ∷ []) s3
      → Overflows equal s3 (((label.0, less), minus) ∷ []) → Overflows equal s0 (added k minus label up down more less)
  overflow_last a b c o =
      overflows_both equal s0 (each_beside k label.1 up) s1 (each_beside minus label.1 down ++ (((label.0, more), k) ∷ ((label.0, less), minus) ∷ [])) a
      (overflows_both equal s1 (each_beside minus label.1 down) s2 (((label.0, more), k) ∷ ((label.0, less), minus) ∷ []) b
      (overflows_both equal s2 (((label.0, more), k) ∷ []) s3 (((label.0, less), minus) ∷ []) c o))

-- if |k| ≥ 2^127, then adding k times the terms of (x_r - y_c)·y^e·S_w overflows, for each label (w, e)
pub overflow_negative : (old : ShiftedSum) (k : ℤ) (r c : ℕ) (label : List ℕ × List ℕ) → 2 ^ 127 ≤ nat_abs (neg_ℤ k) → Overflows equal old (scaled k (factor_terms r c label))
overflow_negative old k r c label large =
    let a = overflows_alone label_laws same_pair old (label.0, raised c label.1) (neg_ℤ k) large in
    subst (Overflows equal old)
    (factor_scaled k (neg_ℤ k) r c (letter label.0 r) label (covers_up r label.0) (covers_down r label.0) (raised (letter label.0 r) label.1) (raised c label.1) refl refl refl refl refl refl)
    (overflows_as equal old (((label.0, raised c label.1), neg_ℤ k) ∷ [])
    (added k (neg_ℤ k) label (covers_up r label.0) (covers_down r label.0) (raised (letter label.0 r) label.1) (raised c label.1))
    (λ x.
    let p = mass_at_append equal x (each_beside k label.1 (covers_up r label.0)) (each_beside (neg_ℤ k) label.1 (covers_down r label.0) ++ (((label.0, raised (letter label.0 r) label.1), k) ∷ ((label.0, raised c label.1), neg_ℤ k) ∷ [])) in
    let q = mass_at_append equal x (each_beside (neg_ℤ k) label.1 (covers_down r label.0)) (((label.0, raised (letter label.0 r) label.1), k) ∷ ((label.0, raised c label.1), neg_ℤ k) ∷ []) in
    omega arith) a)

pub beside_append : (k : ℤ) (e : List ℕ) (vs ws : List (List ℕ)) → each_beside k e (vs ++ ws) ≡ each_beside k e vs ++ each_beside k e ws
beside_append k e [] ws = refl
beside_append k e (v ∷ vs) ws = ap (λ (l : ShiftedSum). ((v, e), k) ∷ l) (beside_append k e vs ws)

module _ (r c : ℕ) (first : 1 ≤ r) (list : ShiftedSum) where
  pub over_product : (φ : List ℕ × List ℕ → ℤ) → over φ (replaced (factor_terms r c) list) ≡ over (over_factor r c φ) list
  over_product φ =
      replaced_over (factor_terms r c) φ list
      ∙ total_ext (λ (t : (List ℕ × List ℕ) × ℤ). t.1 *ℤ over φ (factor_terms r c t.0)) (λ (t : (List ℕ × List ℕ) × ℤ). t.1 *ℤ over_factor r c φ t.0) (λ t. ap (λ z. t.1 *ℤ z) (over_terms r c φ t.0)) list

  one_line : IsShiftedTable list → (t : (List ℕ × List ℕ) × ℤ) → Among t list → IsOneLine t.0.0
  one_line is t m =
      label_one_line t.0.0 (and_parts (is_permutation_label t.0.0) (is_monomial_label t.0.1) (and_parts _ (is_shifted_label t.0) (term-among is_shifted_label whole list is.proper t m)).1).0

  pub product_mass : (letters degree : ℕ) → HaveLabels (IsWithin letters degree) list → r ≤ letters → mass (replaced (factor_terms r c) list) ≤ mass list * (letters + 2)
  product_mass letters degree is last =
      mass_replaced (factor_terms r c) (letters + 2) list (λ t m. let s = (is t m).short in let n = mass_terms r c t.0 first in omega arith)

  pub product_labels : (old new : ShiftedSum) → IsShiftedTable new → Gains old (replaced (factor_terms r c) list) new → (letters degree : ℕ) → HaveLabels (IsWithin letters degree) list → r ≤ letters
      → HaveLabels (IsWithin (letters + 1) (degree + 1)) old → HaveLabels (IsWithin (letters + 1) (degree + 1)) new
  product_labels old new is gains letters degree within last was =
      labels_gained label_laws same_pair old (replaced (factor_terms r c) list) new is gains (IsWithin (letters + 1) (degree + 1)) was
      (labels_replaced (factor_terms r c) (IsWithin (letters + 1) (degree + 1)) list (λ t m. labels_terms r c letters degree t.0 first last (within t m)))

  -- let p be the polynomial with the expansion `list` in terms y^e·S_w. If each of these terms is replaced by the expansion of (x_r - y_c)·y^e·S_w
  -- by Monk's rule, the result is an expansion of (x_r - y_c)·p. This is stated for `pair`, the sum of coefficient times φ over the monomials.
  pub pair_product : (n : ℕ) (φ : List ℕ → ℤ) → IsShiftedTable list
      → over (over_factor r c (λ label. pair (shifted_in label n) φ)) list ≡ pair (times (difference_in r c n) (combined (λ label. shifted_in label n) list)) φ
  pair_product n φ is =
      sym
      (pair_times (difference_in r c n) (combined (λ label. shifted_in label n) list) φ
      ∙ pair_ext (difference_in r c n) (λ α. pair (combined (λ label. shifted_in label n) list) (λ β. φ (join α β)))
      (λ α. over (λ label. pair (shifted_in label n) (λ β. φ (join α β))) list) (λ α. pair_of_combined (λ label. shifted_in label n) list (λ β. φ (join α β)))
      ∙ pair_total (difference_in r c n) (λ (t : (List ℕ × List ℕ) × ℤ) α. t.1 *ℤ pair (shifted_in t.0 n) (λ β. φ (join α β))) list
      ∙ total_among (λ (t : (List ℕ × List ℕ) × ℤ). pair (difference_in r c n) (λ α. t.1 *ℤ pair (shifted_in t.0 n) (λ β. φ (join α β))))
      (λ (t : (List ℕ × List ℕ) × ℤ). t.1 *ℤ over_factor r c (λ label. pair (shifted_in label n) φ) t.0) list
      (λ t m.
      pair_factor t.1 (difference_in r c n) (λ α. pair (shifted_in t.0 n) (λ β. φ (join α β)))
      ∙ ap (λ z. t.1 *ℤ z)
      (sym (pair_times (difference_in r c n) (shifted_in t.0 n) φ)
      ∙ shifted_step n r c t.0.0 t.0.1 φ (one_line is t m) first)))

-- if each label (w, e) of the list is within the bounds `letters` for the length of w and `degree` for the degree of y^e, then it is also
-- within the bounds max(r, m) and `degree`, with m the greatest length of a permutation w of these labels
pub longest : (list : ShiftedSum) (r letters degree : ℕ) → HaveLabels (IsWithin letters degree) list → HaveLabels (IsWithin (max r (greatest_length list)) degree) list
longest [] r letters degree h t m = absurd m
longest (u ∷ list) r letters degree h t (inl e) =
    let l = ap (λ (v : (List ℕ × List ℕ) × ℤ). length v.0.0) e in
    let s = (h t (inl e)).small in
    record { short = omega arith; small = s }
longest (u ∷ list) r letters degree h t (inr m) =
    let l = longest list r letters degree (λ v i. h v (inr i)) t m in
    let a = l.short in
    record { short = omega arith; small = l.small }
