-- Lemmas for the implementations of the traits `Factor` and `Rule` by `TimesVar`: the transition rule for the product
-- of a monomial and a Schubert polynomial, and the product of a monomial and a variable.
use Rattle.std.proofs.Common.{◌≡◌, ℕ, ◌+◌, ◌≤◌, ◌<◌, Bool, true, false, ◌&&◌, cond, List, [], ◌∷◌}
use Rattle.std.proofs.Common.{refl, sym, ap}
use Rattle.std.proofs.Common.{◌∙◌, subst, inl, inr, arith, ℤ, pos, ◌+ℤ◌, ◌*ℤ◌}
use Rattle.sym_model.specs.DividedDifference.{raised, x_to_in}
use Rattle.sym_model.specs.LabelLimits.{is_monomial_label}
use Rattle.sym_model.specs.Partition.{size}
use Rattle.sym_model.specs.Permutation.{IsOneLine, IsTransition, times_swap, covers_down}
use Rattle.sym_model.specs.Polynomial.{join, no_exponents, one, pair, resize, fits_in}
use Rattle.sym_model.specs.Schubert.{schubert_in}
use Rattle.sym_model.specs.Sum.{total}
use Rattle.sym_model.proofs.Exponents.{join_assoc, join_comm, join_zeros, length-resize, resize-join}
use Rattle.sym_model.proofs.Exponents.{fits_in-join}
use Rattle.sym_model.proofs.PolynomialLaws.{restricted_test}
use Rattle.sym_model.proofs.Polynomials.{pair_determined, pair_ext, pair_one}
use Rattle.sym_model.proofs.Ring.{one-product}
use Rattle.sym_model.proofs.Sums.{total_zero}
use Rattle.linear_combinations.specs.Gains.{over}
use Rattle.schubert_laws.proofs.LowerPermutations.{identity_is_one}
use Rattle.sparse_polys.proofs.PolynomialValues.{pair_x_to_in}
use Rattle.sparse_polys.proofs.Raising.{size-raised}
use Rattle.transition_walk.specs.Growth.{GrowsBy}
use Rattle.transition_walk.specs.Transitions.{IsShort}
use Rattle.schubert_laws.proofs.PermutationLabels.{one_one_line}
use Rattle.transition_walk.proofs.Monomials.{unit, pair_transition, pair_variable}
use Rattle.transition_laws.specs.Acted.{acted, raised_terms}
use lib.IntN.{+ℤ_idl, +ℤ_idr}

pub acted_step : (n r s : ℕ) (φ : List ℕ → ℤ) (w e : List ℕ) → IsOneLine w → IsTransition w r s
    → acted n φ w e ≡ acted n φ (times_swap r s w) (raised r e)
    +ℤ total (λ (x : List ℕ). acted n φ x e) (covers_down r (times_swap r s w))
acted_step n r s φ w e o t =
    by (fits_in n e)
    ∙ ap (λ b. cond b (value (resize n (raised r e))) (pos 0)
    +ℤ total (λ (x : List ℕ). acted n φ x e) (covers_down r (times_swap r s w)))
    (sym (fits_in-join n e (unit r)))
  where
    value : List ℕ → ℤ
    value α = pair (schubert_in (times_swap r s w) n) (λ β. φ (join α β))

    raised_value : pair (schubert_in (times_swap r s w) n)
        (λ β. φ (join (resize n e) (join (resize n (unit r)) β)))
        ≡ pair (schubert_in (times_swap r s w) n) (λ β. φ (join (resize n (raised r e)) β))
    raised_value =
        pair_ext (schubert_in (times_swap r s w) n)
        (λ β. φ (join (resize n e) (join (resize n (unit r)) β)))
        (λ β. φ (join (resize n (raised r e)) β))
        (λ β. ap φ (sym (join_assoc (resize n e) (resize n (unit r)) β)
        ∙ ap (λ α. join α β) (sym (resize-join n e (unit r)))))

    by : (b : Bool) → cond b (pair (schubert_in w n) (λ β. φ (join (resize n e) β))) (pos 0)
        ≡ cond (b && fits_in n (unit r))
        (pair (schubert_in (times_swap r s w) n) (λ β. φ (join (resize n (raised r e)) β)))
        (pos 0)
        +ℤ total (λ (x : List ℕ). cond b (pair (schubert_in x n) (λ β. φ (join (resize n e) β)))
        (pos 0)) (covers_down r (times_swap r s w))
    by true =
        pair_transition n r s w (λ β. φ (join (resize n e) β)) o t
        ∙ ap (λ z. z +ℤ total (λ (x : List ℕ). pair (schubert_in x n)
        (λ β. φ (join (resize n e) β))) (covers_down r (times_swap r s w)))
        (pair_variable n r (schubert_in (times_swap r s w) n) (λ β. φ (join (resize n e) β))
        ∙ ap (λ z. cond (fits_in n (unit r)) z (pos 0)) raised_value)
    by false =
        sym (+ℤ_idl (total (λ (x : List ℕ). pos 0) (covers_down r (times_swap r s w)))
        ∙ total_zero (covers_down r (times_swap r s w)))

-- for the identity id, the product x^e·S_id is x^e: the sum of c·φ(α) over its terms c·x^α in n variables (`acted`) is
-- the sum for x^e in n variables (`restricted_test`)
pub identity_shows : (n : ℕ) (φ : List ℕ → ℤ) (e : List ℕ)
    → acted n φ (1 ∷ []) e ≡ restricted_test n φ e
identity_shows n φ e =
    ap (λ z. cond (fits_in n e) z (pos 0))
    (pair_determined (schubert_in (1 ∷ []) n) (one n) (λ β. φ (join (resize n e) β))
    (identity_is_one (1 ∷ []) n one_one_line refl)
    ∙ pair_one n (λ β. φ (join (resize n e) β))
    ∙ ap φ (join_comm (resize n e) (no_exponents n)
    ∙ join_zeros n (resize n e) (let l = length-resize n e in omega arith)))

pub variable_start : (n : ℕ) (φ : List ℕ → ℤ) (e : List ℕ)
    → acted n φ (1 ∷ []) e ≡ pair (x_to_in e n) φ
variable_start n φ e = identity_shows n φ e ∙ sym (pair_x_to_in n e φ)

pub over_raised : (r : ℕ) (φ : List ℕ → ℤ) (e : List ℕ) → over φ (raised_terms r e) ≡ φ (raised r e)
over_raised r φ e = +ℤ_idr (pos 1 *ℤ φ (raised r e)) ∙ one-product (φ (raised r e))

pub variable_step : (n r s : ℕ) (φ : List ℕ → ℤ) (w e : List ℕ) → IsOneLine w → IsTransition w r s
    → is_monomial_label e ≡ true
    → acted n φ w e ≡ over (acted n φ (times_swap r s w)) (raised_terms r e)
    +ℤ total (λ (x : List ℕ). acted n φ x e) (covers_down r (times_swap r s w))
variable_step n r s φ w e o t is =
    acted_step n r s φ w e o t
    ∙ ap (λ z. z +ℤ total (λ (x : List ℕ). acted n φ x e) (covers_down r (times_swap r s w)))
    (sym (over_raised r (acted n φ (times_swap r s w)) e))

pub variable_grows : (k r : ℕ) (v e : List ℕ) → IsShort k v → 1 ≤ r → r ≤ k → r ≤ 255 → k ≤ 32639
    → 255 + size e ≤ k
    → GrowsBy (λ (x : List ℕ). 255 + size x)
    (λ (x : List ℕ). (1 ≤ r) × (r ≤ 255) × (size x < 32385)) (raised_terms r) k 0 e
variable_grows k r v e short first inside last small extent = record {
  taken = (first, last, omega arith);
  labels = λ t m. elim m [
    | inl is ↦
        subst (λ (x : List ℕ). 255 + size x ≤ k + 1) (sym (ap (λ (u : List ℕ × ℤ). u.0) is))
        (let s = size-raised r e in omega arith)
    | inr none ↦ absurd none
  ];
  few = omega arith;
}
