-- Lemmas for the implementations of the traits `Factor` and `Rule` by `TimesFactor`: the transition rule for a
-- product of double Schubert polynomials, and the terms of (x_r - y_c)·y^e·S_w.
use Rattle.std.proofs.Common.{◌≡◌, ℕ, ◌+◌, ◌≤◌, max, true, List, [], ◌∷◌, ◌++◌, length, refl, sym}
use Rattle.std.proofs.Common.{ap, ◌∙◌, subst, inl, inr, arith, ℤ, pos, negsuc, ◌+ℤ◌, ◌*ℤ◌}
use Rattle.std.specs.Prelude.{nat_abs}
use Rattle.std.proofs.lemmas.Bool.{and_parts}
use Rattle.std.proofs.lemmas.Int.{ints}
use Rattle.sym_model.specs.DividedDifference.{raised}
use Rattle.sym_model.specs.DoubleSchubert.{shifted_in}
use Rattle.sym_model.specs.LabelLimits.{is_permutation_label, is_monomial_label, is_shifted_label}
use Rattle.sym_model.specs.Partition.{size}
use Rattle.sym_model.specs.Permutation.{IsOneLine, IsTransition, letter, times_swap, covers_up}
use Rattle.sym_model.specs.Permutation.{covers_down}
use Rattle.sym_model.specs.Polynomial.{pair}
use Rattle.sym_model.specs.Sum.{Among, total}
use Rattle.sym_model.proofs.Ring.{distributes_left}
use Rattle.schubert_laws.proofs.Members.{place_within}
use Rattle.schubert_laws.proofs.Ranks.{letter_counts}
use Rattle.double_schubert_laws.specs.Factors.{over_factor, acted}
use Rattle.double_schubert_laws.proofs.DoubleFromOne.{letter_small}
use Rattle.double_schubert_laws.proofs.ProductSteps.{product_identity, product_step}
use Rattle.sparse_polys.proofs.Raising.{size-raised}
use Rattle.linear_combinations.specs.Gains.{over, mass, HaveLabels}
use Rattle.linear_combinations.proofs.Gains.{over_append}
use Rattle.sym_model.proofs.WholeTerms.{labels_append}
use Rattle.linear_combinations.proofs.Masses.{mass_append}
use Rattle.transition_walk.specs.Transitions.{IsShort}
use Rattle.transition_walk.proofs.Covers.{count_covers, up_within, down_within}
use Rattle.schubert_laws.proofs.PermutationLabels.{label_one_line, one_one_line}
use Rattle.transition_walk.specs.Growth.{GrowsBy}
use Rattle.transition_laws.specs.Shifts.{IsWithin, IsFactor, each_beside, factor_terms}
use lib.IntN.{*ℤ-zero}

over_beside : (k : ℤ) (φ : List ℕ × List ℕ → ℤ) (e : List ℕ) (vs : List (List ℕ))
    → over φ (each_beside k e vs) ≡ k *ℤ total (λ (v : List ℕ). φ (v, e)) vs
over_beside k φ e [] = sym (*ℤ-zero k)
over_beside k φ e (v ∷ vs) =
    ap (λ z. k *ℤ φ (v, e) +ℤ z) (over_beside k φ e vs)
    ∙ sym (distributes_left k (φ (v, e)) (total (λ (v : List ℕ). φ (v, e)) vs))

mass_beside : (k : ℤ) (e : List ℕ) (vs : List (List ℕ)) → nat_abs k ≡ 1
    → mass (each_beside k e vs) ≡ length vs
mass_beside k e [] one = refl
mass_beside k e (v ∷ vs) one = let h = mass_beside k e vs one in omega arith

labels_beside : (P : List ℕ × List ℕ → Type 0) (k : ℤ) (e : List ℕ) (vs : List (List ℕ))
    → ((v : List ℕ) → Among v vs → P (v, e)) → HaveLabels P (each_beside k e vs)
labels_beside P k e [] h t m = absurd m
labels_beside P k e (v ∷ vs) h t (inl i) =
    subst P (sym (ap (λ (u : (List ℕ × List ℕ) × ℤ). u.0) i)) (h v (inl refl))
labels_beside P k e (v ∷ vs) h t (inr m) = labels_beside P k e vs (λ u i. h u (inr i)) t m

pub over_terms : (r c : ℕ) (φ : List ℕ × List ℕ → ℤ) (label : List ℕ × List ℕ)
    → over φ (factor_terms r c label) ≡ over_factor r c φ label
over_terms r c φ label =
    let up = each_beside (pos 1) label.1 (covers_up r label.0) in
    let down = each_beside (negsuc 0) label.1 (covers_down r label.0) in
    let a =
    over_append φ (each_beside (pos 1) label.1 (covers_up r label.0))
    (each_beside (negsuc 0) label.1 (covers_down r label.0)
    ++ (((label.0, raised (letter label.0 r) label.1), pos 1)
    ∷ ((label.0, raised c label.1), negsuc 0) ∷ [])) in
    let b =
    over_append φ (each_beside (negsuc 0) label.1 (covers_down r label.0))
    (((label.0, raised (letter label.0 r) label.1), pos 1)
    ∷ ((label.0, raised c label.1), negsuc 0) ∷ []) in
    let d = over_beside (pos 1) φ label.1 (covers_up r label.0) in
    let e = over_beside (negsuc 0) φ label.1 (covers_down r label.0) in
    omega (arith, ints)

pub mass_terms : (r c : ℕ) (label : List ℕ × List ℕ) → 1 ≤ r
    → mass (factor_terms r c label) ≤ max (length label.0) r + 2
mass_terms r c label h =
    let a =
    mass_append (each_beside (pos 1) label.1 (covers_up r label.0))
    (each_beside (negsuc 0) label.1 (covers_down r label.0)
    ++ (((label.0, raised (letter label.0 r) label.1), pos 1)
    ∷ ((label.0, raised c label.1), negsuc 0) ∷ [])) in
    let b =
    mass_append (each_beside (negsuc 0) label.1 (covers_down r label.0))
    (((label.0, raised (letter label.0 r) label.1), pos 1)
    ∷ ((label.0, raised c label.1), negsuc 0) ∷ []) in
    let d = mass_beside (pos 1) label.1 (covers_up r label.0) refl in
    let e = mass_beside (negsuc 0) label.1 (covers_down r label.0) refl in
    let n = count_covers r label.0 h in
    omega arith

-- if w has at most `letters` letters and y^e a degree of at most `degree`, and r is from 1 to `letters`, then in each
-- term y^f·S_v of (x_r - y_c)·y^e·S_w, v has at most `letters` + 1 letters and y^f a degree of at most `degree` + 1
pub labels_terms : (r c letters degree : ℕ) (label : List ℕ × List ℕ) → 1 ≤ r → r ≤ letters
    → IsWithin letters degree label
    → HaveLabels (IsWithin (letters + 1) (degree + 1)) (factor_terms r c label)
labels_terms r c letters degree label first last is =
    let s = is.short in
    let d = is.small in
    labels_append (IsWithin (letters + 1) (degree + 1))
    (each_beside (pos 1) label.1 (covers_up r label.0))
    (each_beside (negsuc 0) label.1 (covers_down r label.0)
    ++ (((label.0, raised (letter label.0 r) label.1), pos 1)
    ∷ ((label.0, raised c label.1), negsuc 0) ∷ []))
    (labels_beside (IsWithin (letters + 1) (degree + 1)) (pos 1) label.1 (covers_up r label.0)
    (λ v m. record {
      short = up_within r (letters + 1) label.0 v first (omega arith) m;
      small = omega arith;
    }))
    (labels_append (IsWithin (letters + 1) (degree + 1))
    (each_beside (negsuc 0) label.1 (covers_down r label.0))
    (((label.0, raised (letter label.0 r) label.1), pos 1)
    ∷ ((label.0, raised c label.1), negsuc 0) ∷ [])
    (labels_beside (IsWithin (letters + 1) (degree + 1)) (negsuc 0) label.1 (covers_down r label.0)
    (λ v m. record {
      short = down_within r (letters + 1) label.0 v (omega arith) m;
      small = omega arith;
    }))
    (λ t m. elim m [
      | inl e ↦
          subst (IsWithin (letters + 1) (degree + 1))
          (sym (ap (λ (u : (List ℕ × List ℕ) × ℤ). u.0) e))
          (let z = size-raised (letter label.0 r) label.1 in
          record { short = omega arith; small = omega arith })
      | inr j ↦ elim j [
        | inl e ↦
            subst (IsWithin (letters + 1) (degree + 1))
            (sym (ap (λ (u : (List ℕ × List ℕ) × ℤ). u.0) e))
            (let z = size-raised c label.1 in record { short = omega arith; small = omega arith })
        | inr k ↦ absurd k
      ]
    ]))

label_of : (label : List ℕ × List ℕ) → is_shifted_label label ≡ true → IsOneLine label.0
label_of label is =
    label_one_line label.0 (and_parts (is_permutation_label label.0)
    (is_monomial_label label.1) is).0

pub factor_start : (n : ℕ) (φ : List ℕ → ℤ) (label : List ℕ × List ℕ)
    → acted n φ (1 ∷ []) label ≡ pair (shifted_in label n) φ
factor_start n φ label = product_identity n φ (1 ∷ []) label.0 label.1 one_one_line refl

pub factor_step : (n r s : ℕ) (φ : List ℕ → ℤ) (w : List ℕ) (label : List ℕ × List ℕ) → IsOneLine w
    → IsTransition w r s → is_shifted_label label ≡ true
    → acted n φ w label
    ≡ over (acted n φ (times_swap r s w)) (factor_terms r (letter (times_swap r s w) r) label)
    +ℤ total (λ (x : List ℕ). acted n φ x label) (covers_down r (times_swap r s w))
factor_step n r s φ w label o t is =
    let p = place_within w r s o t in
    product_step n r s φ w label.0 label.1 o t (label_of label is) p.0
    ∙ ap (λ z. z +ℤ total (λ (x : List ℕ). acted n φ x label) (covers_down r (times_swap r s w)))
    (sym (over_terms r (letter (times_swap r s w) r) (acted n φ (times_swap r s w)) label))

pub factor_grows : (k r : ℕ) (v : List ℕ) (label : List ℕ × List ℕ) → IsShort k v → 1 ≤ r → r ≤ k
    → r ≤ 255 → k ≤ 254 → max (length label.0) (size label.1) ≤ k
    → GrowsBy (λ (x : List ℕ × List ℕ). max (length x.0) (size x.1))
    (λ (x : List ℕ × List ℕ). IsFactor r (letter v r) × IsWithin 254 32384 x)
    (factor_terms r (letter v r)) k 2 label
factor_grows k r v label short first last place small extent =
    let f = short.few in
    let a = letter_counts v r short.one_line first in
    let b = letter_small v r short.one_line first in
    record {
      taken = (
        record { first = first; last = omega arith; column = a; last_column = omega arith },
        record { short = omega arith; small = omega arith },
      );
      labels = λ t m. let l =
          labels_terms r (letter v r) k k label first last
          (record { short = omega arith; small = omega arith }) t m in let s = l.short in
          let d = l.small in omega arith;
      few = let m = mass_terms r (letter v r) label first in omega arith;
    }
