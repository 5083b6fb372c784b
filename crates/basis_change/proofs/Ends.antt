-- A list in the monomial basis m and the result of changing it into another basis expand the same polynomials.
--     multiple-changed      a list in m with integer coefficients, changed into e, h or p
--     expansion-by          a list in m with fractions as coefficients, changed into another basis
use Rattle.std.proofs.Common.{◌≡◌, ℕ, ◌*◌, ◌/◌, ◌<◌, ◌≤◌, List, [], ◌∷◌, refl, sym, ap, ap₂, ◌∙◌, inl, inr, arith, ℤ, pos, ◌+ℤ◌, ◌*ℤ◌}
use Rattle.std.proofs.lemmas.Int.{ints}
use Rattle.sym_model.specs.Sum.{Among, total}
use Rattle.sym_model.specs.Polynomial.{Poly, Same, coefficient, pair, times, one, scale}
use Rattle.sym_model.specs.Bases.{monomial, product_over}
use Rattle.sym_model.specs.Expansion.{Basis, basis_polynomial, Terms, denominators, value_by, Represents, IsExpansionOf}
use Rattle.sym_model.specs.ListWeight.{IsBounded}
use Rattle.sym_model.specs.Weight.{factorial}
use Rattle.sym_model.specs.WholeTerms.{WholeTerms, combined}
use Rattle.sym_model.proofs.Ring.{ring, distributes_left, product_left_comm, product_turned, product_assoc}
use Rattle.sym_model.proofs.Polynomials.{pair_scale, pair_determined, coefficient_scale, at_only, coefficient_pair}
use Rattle.sym_model.proofs.PolynomialLaws.{one-times}
use Rattle.sym_model.proofs.WholeTerms.{pair_of_combined, combined_respects}
use Rattle.monomial_laws.specs.ExpressionTerms.{in_monomials, over}
use Rattle.monomial_laws.proofs.DividedTerms.{IsDivided, IsDivided-over, value-divided}
use Rattle.basis_change_laws.specs.AugmentedMonomial.{augmented, multiplicity_factorials}
use Rattle.sparse_polys.specs.Tables.{IsFractionTable, IsWholeTable}
use Rattle.sparse_polys.specs.LabelSizes.{AreWithin}
use Rattle.sparse_polys.proofs.WholeLists.{Once-keys, label-partition}
use Rattle.sparse_polys.proofs.Quotients.{Quotients, IsDivided-quotients}
use Rattle.sparse_polys.specs.declared.family.Family.{Family}
use Rattle.sparse_polys.specs.declared.family.Family.TheVariants.{Elementary, Complete, PowerSum}
use Rattle.linear_combinations.specs.Gains.{over as sum_over}
use Rattle.basis_change.specs.Clearing.{IsMultipleIn, augmented_number, augmented_terms}
use Rattle.sparse_polys.specs.Families.{polynomial_of, basis_in}
use Rattle.basis_change.specs.Factors.{target_value, product_value}
use Rattle.basis_change.proofs.Values.{In-augmented}
use Rattle.basis_change.proofs.CostTable.{divides-at}
use Rattle.sym_model.proofs.Integers.{product_cancel}
use native.Mathlib.Nat.{mul-pos}
use lib.IntN.{*ℤ-zero}

start-term : (family : Family) (n q : ℕ) (φ : List ℕ → ℤ) (t : List ℕ × ℤ) → (q / multiplicity_factorials t.0) * multiplicity_factorials t.0 ≡ q
    → augmented_number q t.0 t.1 *ℤ product_value family n φ ([], t.0) ≡ pos q *ℤ (t.1 *ℤ pair (monomial t.0 n) φ)
start-term family n q φ t e =
    let m = multiplicity_factorials t.0 in
    let k = q / multiplicity_factorials t.0 in
    let x = pair (monomial t.0 n) φ in
    let v : product_value family n φ ([], t.0) ≡ pos m *ℤ x =
    pair_determined (times (one n) (augmented t.0 n)) (augmented t.0 n) φ (one-times n (augmented t.0 n) (In-augmented t.0 n)) ∙ pair_scale (pos m) (monomial t.0 n) φ in
    ap (λ z. (t.1 *ℤ pos k) *ℤ z) v ∙ regroup t.1 (pos k) (pos m) x ∙ ap (λ z. pos z *ℤ (t.1 *ℤ x)) e
  where
    regroup : (w k m x : ℤ) → (w *ℤ k) *ℤ (m *ℤ x) ≡ (k *ℤ m) *ℤ (w *ℤ x)
    regroup w k m x = simp ring (omega (arith, ints))

start-value : (family : Family) (n q : ℕ) (φ : List ℕ → ℤ) (terms : WholeTerms) → ((t : List ℕ × ℤ) → Among t terms → (q / multiplicity_factorials t.0) * multiplicity_factorials t.0 ≡ q)
    → sum_over (product_value family n φ) (augmented_terms q terms) ≡ pos q *ℤ total (λ (t : List ℕ × ℤ). t.1 *ℤ pair (monomial t.0 n) φ) terms
start-value family n q φ [] h = sym (*ℤ-zero (pos q))
start-value family n q φ (t ∷ terms) h =
    ap₂ ◌+ℤ◌ (start-term family n q φ t (h t (inl refl))) (start-value family n q φ terms (λ u m. h u (inr m)))
    ∙ sym (distributes_left (pos q) (t.1 *ℤ pair (monomial t.0 n) φ) (total (λ (t : List ℕ × ℤ). t.1 *ℤ pair (monomial t.0 n) φ) terms))

same_combined : (family : Family) (n : ℕ) (end : WholeTerms) → combined (λ label. basis_polynomial (basis_in family) label n) end ≡ combined (λ label. product_over (polynomial_of family) label n) end
same_combined Elementary n end = refl
same_combined Complete n end = refl
same_combined PowerSum n end = refl

pub multiple-changed : (family : Family) (d : ℕ) (terms end : WholeTerms) → d ≤ 15 → IsWholeTable terms → AreWithin d terms
    → ((n : ℕ) (φ : List ℕ → ℤ) → sum_over (target_value family n φ) end ≡ sum_over (product_value family n φ) (augmented_terms (factorial d) terms))
    → IsMultipleIn (basis_in family) (factorial d) terms end
multiple-changed family d terms end low is w same_value n α =
    ap (λ g. coefficient g α) (same_combined family n end)
    ∙ coefficient_pair (combined (λ label. product_over (polynomial_of family) label n) end) α
    ∙ pair_of_combined (λ label. product_over (polynomial_of family) label n) end (at_only α)
    ∙ same_value n (at_only α)
    ∙ start-value family n (factorial d) (at_only α) terms (λ t m. (divides-at d t.0 low (label-partition terms is t m) (w t m)).multiplicities)
    ∙ ap (λ z. pos (factorial d) *ℤ z) (sym (pair_of_combined (λ label. monomial label n) terms (at_only α)) ∙ sym (coefficient_pair (in_monomials terms n) α))
    ∙ sym (coefficient_scale (pos (factorial d)) (in_monomials terms n) α)

crossed : (q a b x y f : ℤ) → b *ℤ y ≡ a *ℤ x → q *ℤ x ≡ b *ℤ f → (q *ℤ y) *ℤ b ≡ (a *ℤ f) *ℤ b
crossed q a b x y f h k = product_turned q y b ∙ ap (λ z. q *ℤ z) h ∙ product_left_comm q a x ∙ ap (λ z. a *ℤ z) k ∙ sym (product_turned a f b)

-- let W be D times the list of fractions `terms`: then q·W is D·f if and only if `terms` represents f divided by q
module _ (polynomial : List ℕ → Poly) (D q : ℕ) (W : WholeTerms) (terms : Terms (List ℕ)) (f : Poly) (d : IsDivided D W terms) where
  pub clears : Represents polynomial terms f q → Same (scale (pos q) (combined polynomial W)) (scale (pos D) f)
  clears h α =
      let v = coefficient (value_by polynomial terms) α in
      let w = coefficient (combined polynomial W) α in
      let Q = denominators terms in
      coefficient_scale (pos q) (combined polynomial W) α
      ∙ product_cancel (pos q *ℤ w) (pos D *ℤ coefficient f α) (denominators terms) h.positive
      (crossed (pos q) (pos D) (pos Q) v w (coefficient f α) (sym (value-divided polynomial D W terms d α))
      (sym (coefficient_scale (pos q) (value_by polynomial terms) α) ∙ h.equal α ∙ coefficient_scale (pos Q) f α))
      ∙ sym (coefficient_scale (pos D) f α)

  pub expands : 0 < D → Same (scale (pos q) (combined polynomial W)) (scale (pos D) f) → Represents polynomial terms f q
  expands some h = record {
    positive = d.positive;
    equal = λ α.
        let v = coefficient (value_by polynomial terms) α in
        let w = coefficient (combined polynomial W) α in
        let Q = denominators terms in
        coefficient_scale (pos q) (value_by polynomial terms) α
        ∙ product_cancel (pos q *ℤ v) (pos Q *ℤ coefficient f α) D some
        (crossed (pos q) (pos Q) (pos D) w v (coefficient f α) (value-divided polynomial D W terms d α)
        (sym (coefficient_scale (pos q) (combined polynomial W) α) ∙ h α ∙ coefficient_scale (pos D) f α))
        ∙ sym (coefficient_scale (pos Q) f α);
  }

-- let W be D times the list of fractions `terms` in m, let R be the list q·W changed into another basis, and let `answer` be R divided by D·q. Then
-- `answer` expands each polynomial that `terms` expands
pub expansion-by : (basis : Basis) (N D q : ℕ) (terms answer : Terms (List ℕ)) (W R : WholeTerms) → 0 < D → 0 < q → IsFractionTable terms → IsBounded N D terms → Same W (over D terms)
    → IsMultipleIn basis q W R → IsFractionTable answer → Quotients (D * q) answer R
    → (n : ℕ) (f : Poly) (p : ℕ) → IsExpansionOf Basis.monomials terms n f p → IsExpansionOf basis answer n f p
expansion-by basis N D q terms answer W R some positive is b same multiple js quotients n f p h =
    let P : List ℕ → Poly = λ label. basis_polynomial basis label n in
    let V = in_monomials (over D terms) n in
    let whole = clears (λ label. monomial label n) D p (over D terms) terms f (IsDivided-over D terms h.positive (Once-keys terms is) (λ t m. (b t m).0)) h in
    expands P (D * q) p R answer f (IsDivided-quotients (D * q) R answer (mul-pos some positive) js quotients) (mul-pos some positive)
    (λ α.
    coefficient_scale (pos p) (combined P R) α
    ∙ ap (λ z. pos p *ℤ z)
    (multiple n α ∙ coefficient_scale (pos q) (in_monomials W n) α ∙ ap (λ z. pos q *ℤ z) (combined_respects (λ label. monomial label n) W (over D terms) same α))
    ∙ product_left_comm (pos p) (pos q) (coefficient V α)
    ∙ ap (λ z. pos q *ℤ z) (sym (coefficient_scale (pos p) V α) ∙ whole α ∙ coefficient_scale (pos D) f α)
    ∙ product_left_comm (pos q) (pos D) (coefficient f α) ∙ sym (product_assoc (pos D) (pos q) (coefficient f α))
    ∙ sym (coefficient_scale (pos (D * q)) f α))
