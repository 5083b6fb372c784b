-- The products y^β·S_w(x; y), for permutations w of at most n letters and exponent lists β of at most n places, are
-- linearly independent in n variables x and n variables y.
use Rattle.std.proofs.Common.{◌≡◌, ◌⊎◌, ℕ, suc, ◌+◌, ◌-◌, ◌≤◌, ◌&&◌, cond, List, ◌++◌, length, take}
use Rattle.std.proofs.Common.{drop, replicate, sym, ap, ap₂, ◌∙◌, inl, inr, arith, ℤ, pos, length-append}
use Rattle.std.proofs.lemmas.Bool.{cases_lt}
use Rattle.std.proofs.lemmas.List.{take-append-drop}
use Rattle.sym_model.specs.Polynomial.{Poly, In, pair, same, join, one, resize, fits_in, no_exponents}
use Rattle.sym_model.specs.Partition.{size, without_last_zeros}
use Rattle.sym_model.specs.Alternant.{staircase}
use Rattle.sym_model.specs.Permutation.{IsOneLine}
use Rattle.sym_model.specs.DividedDifference.{x_to, x_to_in}
use Rattle.sym_model.specs.Expansion.{beside}
use Rattle.sym_model.specs.WholeTerms.{same_pair}
use Rattle.sym_model.specs.DoubleSchubert.{double_schubert, double_schubert_in, restrict_both, shifted_in}
use Rattle.sym_model.proofs.Exponents.{same_true, same_from, tests_agree, fits_in_length, resize_same, length-resize}
use Rattle.sym_model.proofs.Polynomials.{pair_determined, pair_in, pair_times, pair_beside, pair_one, pair_restrict}
use Rattle.schubert_laws.proofs.FixedTails.{one_line_added}
use Rattle.double_schubert_laws.proofs.DoubleDominant.{In_double}
use Rattle.double_schubert_laws.proofs.DoubleFromOne.{double_added}
use Rattle.double_schubert_laws.proofs.BothRestrictions.{both, pair_restrict_both}
use Rattle.double_schubert_laws.proofs.DoubleVariables.{any_places}
use Rattle.independence_laws.proofs.LeastLabels.{FindsLeast, independent_by_least}
use Rattle.schubert_laws.proofs.IndependentSchuberts.{length-with_fixed, with_fixed-same}
use Rattle.double_schubert_laws.proofs.DoubleDuals.{HasDoubleDual, dual_within, changed_after, join-changed}
use Rattle.double_schubert_laws.proofs.DoubleDuals.{size-resize_fitting}
use Rattle.independence_laws.proofs.IndependentPowers.{pair_x_to, without_last_zeros-padded}
use Rattle.independence_laws.specs.Independence.{AreIndependent, HasPlaces}
use Rattle.independence_laws.proofs.Entries.{same_pair-decides}
use Rattle.double_schubert_laws.specs.ShortShifts.{IsShortShift}
use Rattle.sym_model.specs.Permutation.{with_fixed}
use Rattle.std.proofs.lemmas.List.{length-take-le}

restricted : (n : ℕ) (f : Poly) (φ : List ℕ → ℤ) → In (n + n) f → pair (restrict_both n n f) φ ≡ pair f φ
restricted n f φ i = pair_restrict_both n n f φ ∙ pair_in (n + n) f (both n n φ) φ i each
  where
    each : (α : List ℕ) → length α ≡ n + n → both n n φ α ≡ φ α
    each α l =
        let a : length (take n α) ≡ n = length-take-le n α (omega arith) in
        let b : length (drop n α) ≡ n = length_drop_some n α l in
        ap (λ t. cond t (φ (resize n (take n α) ++ resize n (drop n α))) (pos 0)) (ap₂ (λ x y. x && y) (fits_in_length n (take n α) (omega arith)) (fits_in_length n (drop n α) (omega arith)))
        ∙ ap φ (ap₂ (λ x y. x ++ y) (resize_same n (take n α) a) (resize_same n (drop n α) b) ∙ take-append-drop n α)
      where
        length_drop_some : (n : ℕ) (β : List ℕ) → length β ≡ n + n → length (drop n β) ≡ n
        length_drop_some n β h =
            let e = ap length (take-append-drop n β) in
            let f = length-append (take n β) (drop n β) in
            let g = length-take-le n β (omega arith) in
            omega arith

pair_double_in : (n : ℕ) (w : List ℕ) (φ : List ℕ → ℤ) → IsOneLine w → length w ≤ n
    → pair (double_schubert_in w n) φ ≡ pair (double_schubert (with_fixed n w) n) φ
pair_double_in n w φ o h =
    sym (pair_determined (restrict_both n n (double_schubert w n)) (double_schubert_in w n) φ (any_places w n n h))
    ∙ restricted n (double_schubert w n) φ (In_double n w)
    ∙ sym (double_added n (n - length w) w φ o (omega arith))

pair_shifted : (n : ℕ) (w γ : List ℕ) (φ : List ℕ → ℤ) → IsOneLine w → length w ≤ n → length γ ≤ n
    → pair (shifted_in (w, γ) n) φ ≡ pair (double_schubert (with_fixed n w) n) (λ δ. φ (changed_after n (join (resize n γ)) δ))
pair_shifted n w γ φ o h k =
    pair_times (beside (one n) (x_to_in γ n)) (double_schubert_in w n) φ
    ∙ pair_beside (one n) (x_to_in γ n) ψ
    ∙ pair_one n (λ α. pair (x_to_in γ n) (λ β. ψ (α ++ β)))
    ∙ pair_restrict n (x_to γ) (λ β. ψ (no_exponents n ++ β))
    ∙ pair_x_to γ (λ α. cond (fits_in n α) (ψ (no_exponents n ++ resize n α)) (pos 0))
    ∙ ap (λ b. cond b (ψ (no_exponents n ++ resize n γ)) (pos 0)) (fits_in_length n γ k)
    ∙ pair_double_in n w (λ δ. φ (join (replicate n 0 ++ resize n γ) δ)) o h
    ∙ pair_in (n + n) (double_schubert (with_fixed n w) n) (λ δ. φ (join (replicate n 0 ++ resize n γ) δ)) (λ δ. φ (changed_after n (join (resize n γ)) δ)) (In_double n (with_fixed n w))
    (λ δ l. ap φ (join-changed n (resize n γ) δ (omega arith)))
  where
    ψ : List ℕ → ℤ
    ψ α = pair (double_schubert_in w n) (λ δ. φ (join α δ))

-- the exponents of y have a sum that is at least as great as in the other label
abbrev HasMore : List ℕ × List ℕ → List ℕ × List ℕ → Type 0
HasMore label x = size label.1 ≤ size x.1

more_total : (x y : List ℕ × List ℕ) → HasMore x y ⊎ HasMore y x
more_total x y = elim (cases_lt (size x.1) (size y.1)) [ inl h ↦ inl (omega arith) | inr h ↦ inr h ]

resize-same : (n : ℕ) (α β : List ℕ) → HasPlaces n α → HasPlaces n β → same (resize n α) (resize n β) ≡ same α β
resize-same n α β p q =
    tests_agree (same (resize n α) (resize n β)) (same α β)
    (λ e. same_from α β (sym (without_last_zeros-padded n α p.0 ∙ p.1) ∙ (ap without_last_zeros (same_true (resize n α) (resize n β) e) ∙ (without_last_zeros-padded n β q.0 ∙ q.1))))
    (λ e. same_from (resize n α) (resize n β) (ap (resize n) (same_true α β e)))

double-finds : (n : ℕ) (label : List ℕ × List ℕ) → IsShortShift n label
    → FindsLeast same_pair (IsShortShift n) HasMore (λ x. shifted_in x n) label
double-finds n label q = record { φ = dual.0; u = 1; some = omega arith; finds = finds }
  where
    dual : HasDoubleDual n (resize n label.1) (with_fixed n label.0)
    dual =
        dual_within (suc (size (staircase (length (with_fixed n label.0))))) n (resize n label.1) (with_fixed n label.0) (omega arith) (length-resize n label.1)
        (one_line_added (n - length label.0) label.0 q.0.one_line) (length-with_fixed n label.0 q.0.short)

    finds : (x : List ℕ × List ℕ) → IsShortShift n x → size label.1 ≤ size x.1
        → pair (shifted_in x n) dual.0 ≡ cond (same_pair x label) (pos 1) (pos 0)
    finds x p h =
        let a = size-resize_fitting n label.1 (fits_in_length n label.1 q.1.0) in
        let b = size-resize_fitting n x.1 (fits_in_length n x.1 p.1.0) in
        pair_shifted n x.0 x.1 dual.0 p.0.one_line p.0.short p.1.0
        ∙ dual.1 (with_fixed n x.0) (resize n x.1) (one_line_added (n - length x.0) x.0 p.0.one_line) (length-with_fixed n x.0 p.0.short) (length-resize n x.1) (omega arith)
        ∙ ap₂ (λ s t. cond (s && t) (pos 1) (pos 0)) (with_fixed-same n x.0 label.0 p.0 q.0) (resize-same n x.1 label.1 p.1 q.1)

pub doubles-independent : (n : ℕ) → AreIndependent same_pair (IsShortShift n) (λ x. shifted_in x n)
doubles-independent n =
    independent_by_least same_pair same_pair-decides (IsShortShift n) HasMore more_total (λ x y z h k. omega arith) (λ x. shifted_in x n) (double-finds n)
