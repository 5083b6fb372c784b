-- Products of factors x_r - y_c and double Schubert polynomials.
--     product_respects   if p = q, then p and q have equal products with the factors of a list
--     product_last       p times a factor f, times the factors of a list, is p times the factors of the list with f appended
--     single_lower       if the transition rule for S_w has only one term, S_w is a factor x_r - y_c times S_v
--     times_next         a list of factors times y^e·S_w: the first factor is multiplied by y^e·S_w, and each term by the other factors
--     trailing           zeros at the end of the exponents of y^e change nothing
use Rattle.std.proofs.Common.{◌≡◌, ℕ, zero, suc, ◌≤◌, Bool, true, false, cond, List, [], ◌∷◌, ◌++◌, ◌&&◌, ◌==◌, refl, ap, ◌∙◌, append-nil, subst, ℤ, pos, map}
use Rattle.sym_model.specs.DividedDifference.{x_to_in}
use Rattle.sym_model.specs.DoubleSchubert.{difference_in, double_schubert_in, double_schuberts_in, shifted_in}
use Rattle.sym_model.specs.Expansion.{beside}
use Rattle.sym_model.specs.Partition.{in_front, without_last_zeros}
use Rattle.sym_model.specs.Permutation.{IsOneLine, IsTransition, letter, times_swap, covers_down}
use Rattle.sym_model.specs.Polynomial.{Term, Poly, Same, one, plus, times, pair, all_zero, fits_in, resize}
use Rattle.sym_model.proofs.Polynomials.{pair_determined, Same_refl, times_respects}
use Rattle.sym_model.proofs.PolynomialLaws.{times_comm, times_assoc}
use Rattle.double_schubert_laws.specs.Factors.{over_factor}
use Rattle.double_schubert_laws.proofs.DoubleVariables.{double_transition_in}
use Rattle.double_schubert_laws.proofs.ProductSteps.{factor_step}
use Rattle.double_schubert.specs.LinearFactors.{product_with, product_in}

pub product_respects : (n : ℕ) (factors : List (ℕ × ℕ)) (p q : Poly) → Same p q → Same (product_with n factors p) (product_with n factors q)
product_respects n [] p q e = e
product_respects n (f ∷ factors) p q e =
    times_respects (difference_in f.0 f.1 n) (difference_in f.0 f.1 n) (product_with n factors p) (product_with n factors q)
    (Same_refl (difference_in f.0 f.1 n)) (product_respects n factors p q e)

pub product_last : (n : ℕ) (factors : List (ℕ × ℕ)) (f : ℕ × ℕ) (p : Poly)
    → product_with n factors (times (difference_in f.0 f.1 n) p) ≡ product_with n (factors ++ f ∷ []) p
product_last n [] f p = refl
product_last n (g ∷ factors) f p = ap (times (difference_in g.0 g.1 n)) (product_last n factors f p)

-- if the transition rule for S_w has no term but that of v = w·t_rs, S_w is (x_r - y_v(r))·S_v
pub single_lower : (n r s : ℕ) (w : List ℕ) → IsOneLine w → IsTransition w r s → covers_down r (times_swap r s w) ≡ []
    → Same (double_schubert_in w n) (times (difference_in r (letter (times_swap r s w) r) n) (double_schubert_in (times_swap r s w) n))
single_lower n r s w o t none =
    subst (λ (f : Poly). Same (double_schubert_in w n) f)
    (ap (λ (xs : List (List ℕ)). plus (times (difference_in r (letter (times_swap r s w) r) n) (double_schubert_in (times_swap r s w) n)) (double_schuberts_in xs n)) none
    ∙ append-nil (times (difference_in r (letter (times_swap r s w) r) n) (double_schubert_in (times_swap r s w) n)))
    (double_transition_in r s n w o t)

-- let f = (r, c) and label = (w, e). The product of x_r - y_c, the factors of `factors` and y^e·S_w is the sum of the terms of (x_r - y_c)·y^e·S_w in
-- Monk's rule (`over_factor`), each times the factors of `factors`; for any φ, the sums of coefficient times φ(exponents) of both sides are equal
pub times_next : (n : ℕ) (φ : List ℕ → ℤ) (f : ℕ × ℕ) (factors : List (ℕ × ℕ)) (label : List ℕ × List ℕ) → IsOneLine label.0 → 1 ≤ f.0
    → pair (times (product_in n (f ∷ factors)) (shifted_in label n)) φ
    ≡ over_factor f.0 f.1 (λ label. pair (times (product_in n factors) (shifted_in label n)) φ) label
times_next n φ f factors label o first =
    let d = difference_in f.0 f.1 n in
    let q = product_in n factors in
    let s = shifted_in label n in
    pair_determined (times (times d q) s) (times (times q d) s) φ (times_respects (times d q) (times q d) s s (times_comm d q) (Same_refl s))
    ∙ pair_determined (times (times q d) s) (times q (times d s)) φ (times_assoc q d s)
    ∙ factor_step n f.0 f.1 q label.0 label.1 φ o first

-- ---- zeros at the end of exponents

all_zero-in_front : (a : ℕ) (e : List ℕ) → all_zero (in_front a e) ≡ all_zero (a ∷ e)
all_zero-in_front zero [] = refl
all_zero-in_front zero (b ∷ e) = refl
all_zero-in_front (suc a) e = refl

all_zero-trailing : (e : List ℕ) → all_zero (without_last_zeros e) ≡ all_zero e
all_zero-trailing [] = refl
all_zero-trailing (a ∷ e) = all_zero-in_front a (without_last_zeros e) ∙ ap (λ b. (a == 0) && b) (all_zero-trailing e)

fits-in_front : (n a : ℕ) (e : List ℕ) → fits_in n (in_front a e) ≡ fits_in n (a ∷ e)
fits-in_front zero a e = all_zero-in_front a e
fits-in_front (suc n) zero [] = fits-none n
  where
    fits-none : (n : ℕ) → true ≡ fits_in n []
    fits-none zero = refl
    fits-none (suc n) = refl
fits-in_front (suc n) zero (b ∷ e) = refl
fits-in_front (suc n) (suc a) e = refl

fits-trailing : (n : ℕ) (e : List ℕ) → fits_in n (without_last_zeros e) ≡ fits_in n e
fits-trailing zero e = all_zero-trailing e
fits-trailing (suc n) [] = refl
fits-trailing (suc n) (a ∷ e) = fits-in_front (suc n) a (without_last_zeros e) ∙ fits-trailing n e

resize-in_front : (n a : ℕ) (e : List ℕ) → resize n (in_front a e) ≡ resize n (a ∷ e)
resize-in_front zero a e = refl
resize-in_front (suc n) zero [] = refl
resize-in_front (suc n) zero (b ∷ e) = refl
resize-in_front (suc n) (suc a) e = refl

resize-trailing : (n : ℕ) (e : List ℕ) → resize n (without_last_zeros e) ≡ resize n e
resize-trailing zero e = refl
resize-trailing (suc n) [] = refl
resize-trailing (suc n) (a ∷ e) = resize-in_front (suc n) a (without_last_zeros e) ∙ ap (λ l. a ∷ l) (resize-trailing n e)

x_to-trailing : (n : ℕ) (e : List ℕ) → x_to_in (without_last_zeros e) n ≡ x_to_in e n
x_to-trailing n e =
    ap (λ b. map {B = Term} (λ (t : Term). (resize n t.0, t.1)) (cond b ((without_last_zeros e, pos 1) ∷ []) [])) (fits-trailing n e)
    ∙ by (fits_in n e)
  where
    by : (b : Bool) → map {B = Term} (λ (t : Term). (resize n t.0, t.1)) (cond b ((without_last_zeros e, pos 1) ∷ []) [])
        ≡ map {B = Term} (λ (t : Term). (resize n t.0, t.1)) (cond b ((e, pos 1) ∷ []) [])
    by true = ap (λ l. (l, pos 1) ∷ []) (resize-trailing n e)
    by false = refl

pub trailing : (n : ℕ) (w e : List ℕ) → shifted_in (w, without_last_zeros e) n ≡ shifted_in (w, e) n
trailing n w e = ap (λ (f : Poly). times (beside (one n) f) (double_schubert_in w n)) (x_to-trailing n e)
