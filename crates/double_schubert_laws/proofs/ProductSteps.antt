-- The product of S_p and a term y^e·S_w of double Schubert polynomials, by the transition rule.
--     factor_step        the product of the term with x_r - y_c
--     product_step       the product of S_p and the term as a sum of products, by the transition rule for p
--     product_identity   if p is the identity, the product of S_p and the term is the term
--     product_start      if e is empty, the product of S_p and the term is S_p·S_w
use Rattle.std.proofs.Common.{◌≡◌, ℕ, ◌+◌, ◌≤◌, List, [], ◌++◌, ◌&&◌, take, drop, length, ◌∙◌, arith, length-append, None, ℤ, ◌+ℤ◌, filter, rules}
use Rattle.std.proofs.lemmas.Int.{ints}
use Rattle.std.proofs.lemmas.List.{replicate-append-replicate}
use Rattle.sym_model.specs.Sum.{total}
use Rattle.sym_model.specs.Polynomial.{Term, Poly, Same, In, one, plus, negate, times, pair, resize, fits_in}
use Rattle.sym_model.specs.Permutation.{IsOneLine, IsTransition, last_descent, letter, times_swap, covers_up, covers_down}
use Rattle.sym_model.specs.DividedDifference.{x_to, x_to_in, raised}
use Rattle.sym_model.specs.Expansion.{beside}
use Rattle.sym_model.specs.DoubleSchubert.{difference_in, double_schubert, double_schubert_in, double_schuberts_in, shifted_in}
use Rattle.sym_model.proofs.Sums.{total_ext}
use Rattle.sym_model.proofs.Exponents.{length-resize, resize-nil, fits_in_length}
use Rattle.sym_model.proofs.Polynomials.{pair_one, pair_restrict, pair_times_each, pair_beside, pair_determined, same_from_pair, Same_refl, Same_trans, Same_sym, times_respects, In_one, In_map, In_times, In_beside, In_restrict}
use Rattle.sym_model.proofs.PolynomialLaws.{times_comm, times_assoc, one-times, pair_times_comm, pair_times_plus, pair_times_minus}
use Rattle.schubert_laws.proofs.Dominant.{pair_x_to}
use Rattle.double_schubert_laws.specs.Factors.{over_factor, acted}
use Rattle.double_schubert_laws.proofs.DoubleVariables.{double_transition_in, identity_double}
use Rattle.double_schubert_laws.proofs.ShiftedStep.{shifts_in, shifted_product}

pub factor_step : (n r c : ℕ) (p : Poly) (w e : List ℕ) (φ : List ℕ → ℤ) → IsOneLine w → 1 ≤ r
    → pair (times p (times (difference_in r c n) (shifted_in (w, e) n))) φ ≡ over_factor r c (λ label. pair (times p (shifted_in label n)) φ) (w, e)
factor_step n r c p w e φ o h =
    let up = shifts_in (covers_up r w) e n in
    let down = shifts_in (covers_down r w) e n in
    let more = shifted_in (w, raised (letter w r) e) n in
    let less = shifted_in (w, raised c e) n in
    let a = pair_determined (times p (times (difference_in r c n) (shifted_in (w, e) n))) (times p (plus (plus up (negate down)) (plus more (negate less)))) φ
    (times_respects p p (times (difference_in r c n) (shifted_in (w, e) n)) (plus (plus up (negate down)) (plus more (negate less))) (Same_refl p) (shifted_product w e r c n o h)) in
    let b = pair_times_plus p (plus up (negate down)) (plus more (negate less)) φ in
    let d = pair_times_minus p up down φ in
    let f = pair_times_minus p more less φ in
    let u = pair_times_each p (λ (v : List ℕ). shifted_in (v, e) n) (covers_up r w) φ in
    let v = pair_times_each p (λ (v : List ℕ). shifted_in (v, e) n) (covers_down r w) φ in
    omega (arith, ints)

pub product_step : (n r s : ℕ) (φ : List ℕ → ℤ) (p w e : List ℕ) → IsOneLine p → IsTransition p r s → IsOneLine w → 1 ≤ r
    → acted n φ p (w, e)
    ≡ over_factor r (letter (times_swap r s p) r) (acted n φ (times_swap r s p)) (w, e) +ℤ total (λ x. acted n φ x (w, e)) (covers_down r (times_swap r s p))
product_step n r s φ p w e o t q h =
    let v = times_swap r s p in
    let d = difference_in r (letter (times_swap r s p) r) n in
    let term = shifted_in (w, e) n in
    let lower = double_schubert_in (times_swap r s p) n in
    let covers = double_schuberts_in (covers_down r (times_swap r s p)) n in
    let a = pair_times_comm (double_schubert_in p n) term φ in
    let b = pair_determined (times term (double_schubert_in p n)) (times term (plus (times d lower) covers)) φ
    (times_respects term term (double_schubert_in p n) (plus (times d lower) covers) (Same_refl term) (double_transition_in r s n p o t)) in
    let c = pair_times_plus term (times d lower) covers φ in
    let f = pair_determined (times term (times d lower)) (times (times term d) lower) φ (Same_sym (times (times term d) lower) (times term (times d lower)) (times_assoc term d lower)) in
    let g = pair_times_comm (times term d) lower φ in
    let i = pair_determined (times lower (times term d)) (times lower (times d term)) φ (times_respects lower lower (times term d) (times d term) (Same_refl lower) (times_comm term d)) in
    let j = factor_step n r (letter (times_swap r s p) r) lower w e φ q h in
    let k = pair_times_each term (λ (x : List ℕ). double_schubert_in x n) (covers_down r (times_swap r s p)) φ in
    let l = total_ext (λ (x : List ℕ). pair (times (shifted_in (w, e) n) (double_schubert_in x n)) φ) (λ (x : List ℕ). acted n φ x (w, e)) (λ x. pair_times_comm (shifted_in (w, e) n) (double_schubert_in x n) φ) (covers_down r (times_swap r s p)) in
    omega (arith, ints)

-- ---- the product of S_p and y^e·S_w if p is the identity, and if e is empty

In_double_in : (n : ℕ) (w : List ℕ) → In (n + n) (double_schubert_in w n)
In_double_in n w =
    let m : ℕ = length w in
    In_map (n + n) (λ (t : Term). (resize n (take m t.0) ++ resize n (drop m t.0), t.1))
    (filter (λ (t : Term). fits_in n (take m t.0) && fits_in n (drop m t.0)) (double_schubert w (length w)))
    (λ t i.
    let a = length-resize n (take m t.0) in
    let b = length-resize n (drop m t.0) in
    let c = length-append (resize n (take m t.0)) (resize n (drop m t.0)) in
    omega arith)

In_shifted : (n : ℕ) (w e : List ℕ) → In (n + n) (shifted_in (w, e) n)
In_shifted n w e = In_times (n + n) (beside (one n) (x_to_in e n)) (double_schubert_in w n) (In_beside n n (one n) (x_to_in e n) (In_one n) (In_restrict n (x_to e))) (In_double_in n w)

pub product_identity : (n : ℕ) (φ : List ℕ → ℤ) (p w e : List ℕ) → IsOneLine p → last_descent p ≡ None → acted n φ p (w, e) ≡ pair (shifted_in (w, e) n) φ
product_identity n φ p w e o d =
    let term = shifted_in (w, e) n in
    pair_determined (times (double_schubert_in p n) term) (times (one (n + n)) term) φ
    (times_respects (double_schubert_in p n) (one (n + n)) term term (identity_double p n o d) (Same_refl term))
    ∙ pair_determined (times (one (n + n)) term) term φ (one-times (n + n) term (In_shifted n w e))

nothing_in_y : (n : ℕ) → Same (beside (one n) (x_to_in [] n)) (one (n + n))
nothing_in_y n =
    search (rules, same_from_pair, pair_beside, pair_one, pair_restrict, pair_x_to, fits_in_length, resize-nil, replicate-append-replicate)

pub product_start : (n : ℕ) (φ : List ℕ → ℤ) (p w : List ℕ) → acted n φ p (w, []) ≡ pair (times (double_schubert_in p n) (double_schubert_in w n)) φ
product_start n φ p w =
    let s = double_schubert_in w n in
    pair_determined (times (double_schubert_in p n) (shifted_in (w, []) n)) (times (double_schubert_in p n) s) φ
    (times_respects (double_schubert_in p n) (double_schubert_in p n) (shifted_in (w, []) n) s (Same_refl (double_schubert_in p n))
    (Same_trans (shifted_in (w, []) n) (times (one (n + n)) s) s
    (times_respects (beside (one n) (x_to_in [] n)) (one (n + n)) s s (nothing_in_y n) (Same_refl s))
    (one-times (n + n) s (In_double_in n w))))
