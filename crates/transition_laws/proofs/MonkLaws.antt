-- Lemmas for `TimesVar`, the multiplication by a variable x_r: the products of two Schubert polynomials in the transition rule, and the terms of
-- x_r·S_w by Monk's rule. For a polynomial f and a function φ of exponent lists, `pair f φ` is the sum of c·φ(α) over the terms c·x^α of f.
use Rattle.std.proofs.Common.{◌≡◌, ℕ, ◌+◌, ◌≤◌, max, true, List, [], ◌∷◌, length, refl, sym, ap, ◌∙◌}
use Rattle.std.proofs.Common.{arith, ℤ}
use Rattle.std.proofs.Common.{pos, negsuc, ◌+ℤ◌}
use Rattle.std.proofs.lemmas.Int.{ints}
use Rattle.sym_model.specs.DividedDifference.{variable_in}
use Rattle.sym_model.specs.LabelLimits.{is_permutation_label}
use Rattle.sym_model.specs.Permutation.{IsOneLine, IsTransition, times_swap, covers_up, covers_down}
use Rattle.sym_model.specs.Polynomial.{Poly, one, plus, negate, times, pair}
use Rattle.sym_model.specs.Schubert as polynomials
use Rattle.sym_model.specs.Schubert.{schubert_in, schuberts_in}
use Rattle.sym_model.specs.Sum.{total}
use Rattle.sym_model.proofs.Polynomials.{pair_times_each, pair_determined, Same_refl, Same_sym}
use Rattle.sym_model.proofs.Polynomials.{times_respects, Same_trans, In_restrict}
use Rattle.sym_model.proofs.PolynomialLaws.{one-times, times_comm, times_assoc, pair_times_comm}
use Rattle.sym_model.proofs.PolynomialLaws.{pair_times_plus, pair_times_minus}
use Rattle.sym_model.proofs.Sums.{total_ext}
use Rattle.schubert_laws.proofs.LowerPermutations.{identity_is_one}
use Rattle.schubert_laws.proofs.Members.{place_within}
use Rattle.schubert_laws.proofs.MonkFromOne.{monk_in}
use Rattle.schubert_laws.proofs.TransitionFromOne.{transition}
use Rattle.linear_combinations.proofs.Gains.{over_append, each_over}
use Rattle.sym_model.proofs.WholeTerms.{labels_append}
use Rattle.linear_combinations.proofs.Masses.{mass_append, mass_each, labels_each}
use Rattle.transition_walk.specs.Transitions.{IsShort}
use Rattle.transition_walk.proofs.Covers.{count_covers, up_within, down_within}
use Rattle.schubert_laws.proofs.PermutationLabels.{label_one_line, one_one_line}
use Rattle.transition_walk.specs.Growth.{GrowsBy}
use Rattle.linear_combinations.specs.Gains.{over, mass, each_with}
use Rattle.transition_laws.specs.MonkTerms.{monk_terms, over_covers}

pub over_terms : (r : ℕ) (φ : List ℕ → ℤ) (w : List ℕ) → over φ (monk_terms r w) ≡ over_covers r φ w
over_terms r φ w =
    let a =
    over_append φ (each_with (pos 1) (covers_up r w))
    (each_with (negsuc 0) (covers_down r w)) in
    let b = each_over (pos 1) φ (covers_up r w) in
    let c = each_over (negsuc 0) φ (covers_down r w) in
    omega (arith, ints)

pub mass_terms : (r : ℕ) (w : List ℕ) → 1 ≤ r → mass (monk_terms r w) ≤ max (length w) r
mass_terms r w h =
    let a =
    mass_append (each_with (pos 1) (covers_up r w)) (each_with (negsuc 0) (covers_down r w)) in
    let b = mass_each (pos 1) (covers_up r w) in
    let c = mass_each (negsuc 0) (covers_down r w) in
    let n = count_covers r w h in
    omega arith

-- ---- the product of two Schubert polynomials, with the transition rule applied to the first

-- for the identity id, `pair` has the same value on the product S_id·S_label in n variables as on S_label in n
-- variables
pub monk_start : (n : ℕ) (φ : List ℕ → ℤ) (label : List ℕ)
    → pair (times (schubert_in (1 ∷ []) n) (schubert_in label n)) φ ≡ pair (schubert_in label n) φ
monk_start n φ label =
    pair_determined (times (schubert_in (1 ∷ []) n) (schubert_in label n)) (schubert_in label n) φ
    (Same_trans (times (schubert_in (1 ∷ []) n) (schubert_in label n))
    (times (one n) (schubert_in label n)) (schubert_in label n)
    (times_respects (schubert_in (1 ∷ []) n) (one n) (schubert_in label n) (schubert_in label n)
    (identity_is_one (1 ∷ []) n one_one_line refl) (Same_refl (schubert_in label n)))
    (one-times n (schubert_in label n) (In_restrict n (polynomials.schubert label))))

monk_step_of : (n r : ℕ) (p : Poly) (w : List ℕ) (φ : List ℕ → ℤ) → IsOneLine w → 1 ≤ r
    → pair (times p (times (variable_in r n) (schubert_in w n))) φ
    ≡ over_covers r (λ x. pair (times p (schubert_in x n)) φ) w
monk_step_of n r p w φ o h =
    let a =
    pair_determined (times p (times (variable_in r n) (schubert_in w n)))
    (times p (plus (schuberts_in (covers_up r w) n)
    (negate (schuberts_in (covers_down r w) n)))) φ
    (times_respects p p (times (variable_in r n) (schubert_in w n))
    (plus (schuberts_in (covers_up r w) n) (negate (schuberts_in (covers_down r w) n)))
    (Same_refl p) (monk_in w r n o h)) in
    let b =
    pair_times_minus p (schuberts_in (covers_up r w) n) (schuberts_in (covers_down r w) n) φ in
    let c = pair_times_each p (λ (x : List ℕ). schubert_in x n) (covers_up r w) φ in
    let d = pair_times_each p (λ (x : List ℕ). schubert_in x n) (covers_down r w) φ in
    omega (arith, ints)

product_step : (n r s : ℕ) (φ : List ℕ → ℤ) (w label : List ℕ) → IsOneLine w → IsTransition w r s
    → IsOneLine label → 1 ≤ r
    → pair (times (schubert_in w n) (schubert_in label n)) φ
    ≡ over_covers r (λ x. pair (times (schubert_in (times_swap r s w) n) (schubert_in x n)) φ) label
    +ℤ total (λ (x : List ℕ). pair (times (schubert_in x n) (schubert_in label n)) φ)
    (covers_down r (times_swap r s w))
product_step n r s φ w label o t q h =
    let x = variable_in r n in
    let term = schubert_in label n in
    let lower = schubert_in (times_swap r s w) n in
    let covers = schuberts_in (covers_down r (times_swap r s w)) n in
    let a = pair_times_comm (schubert_in w n) term φ in
    let b =
    pair_determined (times term (schubert_in w n)) (times term (plus (times x lower) covers)) φ
    (times_respects term term (schubert_in w n) (plus (times x lower) covers) (Same_refl term)
    (transition w r s n o t)) in
    let c = pair_times_plus term (times x lower) covers φ in
    let f =
    pair_determined (times term (times x lower)) (times (times term x) lower) φ
    (Same_sym (times (times term x) lower) (times term (times x lower))
    (times_assoc term x lower)) in
    let g = pair_times_comm (times term x) lower φ in
    let i =
    pair_determined (times lower (times term x)) (times lower (times x term)) φ
    (times_respects lower lower (times term x) (times x term) (Same_refl lower)
    (times_comm term x)) in
    let j = monk_step_of n r lower label φ q h in
    let k =
    pair_times_each term (λ (x : List ℕ). schubert_in x n)
    (covers_down r (times_swap r s w)) φ in
    let l =
    total_ext (λ (x : List ℕ). pair (times (schubert_in label n) (schubert_in x n)) φ)
    (λ (x : List ℕ). pair (times (schubert_in x n) (schubert_in label n)) φ)
    (λ x. pair_times_comm (schubert_in label n) (schubert_in x n) φ)
    (covers_down r (times_swap r s w)) in
    omega (arith, ints)

pub monk_step : (n r s : ℕ) (φ : List ℕ → ℤ) (w label : List ℕ) → IsOneLine w → IsTransition w r s
    → is_permutation_label label ≡ true
    → pair (times (schubert_in w n) (schubert_in label n)) φ
    ≡ over (λ x. pair (times (schubert_in (times_swap r s w) n) (schubert_in x n)) φ)
    (monk_terms r label)
    +ℤ total (λ (x : List ℕ). pair (times (schubert_in x n) (schubert_in label n)) φ)
    (covers_down r (times_swap r s w))
monk_step n r s φ w label o t is =
    let p = place_within w r s o t in
    product_step n r s φ w label o t (label_one_line label is) p.0
    ∙ ap (λ z. z +ℤ total (λ (x : List ℕ). pair (times (schubert_in x n) (schubert_in label n)) φ)
    (covers_down r (times_swap r s w)))
    (sym (over_terms r (λ x. pair (times (schubert_in (times_swap r s w) n) (schubert_in x n)) φ)
    label))

-- ---- the terms of x_r·S_w by Monk's rule have at most one letter more than w

pub monk_grows : (k r : ℕ) (v label : List ℕ) → IsShort k v → 1 ≤ r → r ≤ k → r ≤ 255 → k ≤ 254
    → length label ≤ k
    → GrowsBy length (λ w. (1 ≤ r) × (r ≤ 254) × (length w ≤ 254)) (monk_terms r) k 0 label
monk_grows k r v label short first last place small few = record {
  taken = (first, omega arith, omega arith);
  labels =
      labels_append (λ x. length x ≤ k + 1) (each_with (pos 1) (covers_up r label))
      (each_with (negsuc 0) (covers_down r label))
      (labels_each (λ x. length x ≤ k + 1) (pos 1) (covers_up r label)
      (λ x m. up_within r (k + 1) label x first (omega arith) m))
      (labels_each (λ x. length x ≤ k + 1) (negsuc 0) (covers_down r label)
      (λ x m. down_within r (k + 1) label x (omega arith) m));
  few = let m = mass_terms r label first in omega arith;
}

-- for k ≤ 31 and r ≤ k, Monk's rule for x_r replaces a permutation of at most k letters by a list of permutations of at
-- most k + 1 letters, with coefficients whose absolute values have a sum of at most k
pub monk_grows_short : (k r : ℕ) (v label : List ℕ) → IsShort k v → 1 ≤ r → r ≤ k → r ≤ 255
    → k ≤ 31 → length label ≤ k
    → GrowsBy length (λ w. (1 ≤ r) × (r ≤ 31) × (length w ≤ 31)) (monk_terms r) k 0 label
monk_grows_short k r v label short first last place small few =
    let more = monk_grows k r v label short first last place (omega arith) few in record {
      taken = (first, omega arith, omega arith);
      labels = more.labels;
      few = more.few;
    }
