-- The plethysm F[G] of two lists in m, that is, lists of terms c·m_λ: if the empty partition is the only label of F, then F[G] is a number that does
-- not depend on G.
use Rattle.std.proofs.Common.{◌≡◌, ℕ, ◌/◌, ◌≤◌, List, [], ◌∷◌, length, refl, sym, ◌∙◌, ap, ap₂, inl, inr, arith, ℤ, pos, ◌+ℤ◌, ◌*ℤ◌}
use Rattle.sym_model.specs.Sum.{total, Among}
use Rattle.sym_model.specs.Partition.{ArePositive, size}
use Rattle.sym_model.specs.Polynomial.{Poly, Same, no_exponents, one, pair, scale}
use Rattle.sym_model.specs.Bases.{monomial, power_sum_of}
use Rattle.sym_model.specs.Expansion.{Basis, Fraction, Terms, denominators, value_by, IsExpansionOf}
use Rattle.sym_model.specs.Plethysm.{replaced, substitute}
use Rattle.sym_model.specs.WholeTerms.{WholeTerms}
use Rattle.sym_model.proofs.Ring.{one-product, distributes_right}
use Rattle.sym_model.proofs.Polynomials.{pair_scale, pair_one, pair_determined, same_from_pair, scale_respects}
use Rattle.sym_model.proofs.Sums.{Among_from_map}
use Rattle.sym_model.proofs.WholeTerms.{pair_of_combined}
use Rattle.monomial_laws.specs.ExpressionTerms.{in_monomials, over}
use Rattle.monomial_laws.proofs.DividedTerms.{cleared-over}
use Rattle.monomial_laws.proofs.ExpressionTerms.{list-no_factor}
use Rattle.plethysm_laws.specs.SumsOfMonomials.{HavePlaces}
use Rattle.plethysm_laws.proofs.Substitutions.{pair-substitute, replaced-zeros}
use Rattle.sparse_polys.specs.Tables.{IsFractionTable}
use Rattle.sparse_polys.specs.LabelSizes.{AreWithin}
use Rattle.plethysm.proofs.FactorLists.{label_of}
use Rattle.sym_model.proofs.Integers.{product_cancel}
use lib.IntN.{+ℤ_idr, *ℤ_comm, zero-*ℤ}

pair-empty : (k : ℕ) (φ : List ℕ → ℤ) → pair (monomial [] k) φ ≡ φ (no_exponents k)
pair-empty k φ =
    sym (one-product (pair (monomial [] k) φ))
    ∙ sym (+ℤ_idr (pos 1 *ℤ pair (monomial [] k) φ))
    ∙ sym (pair_of_combined (λ label. monomial label k) (([], pos 1) ∷ []) φ)
    ∙ pair_determined (in_monomials (([], pos 1) ∷ []) k) (one k) φ (list-no_factor power_sum_of k)
    ∙ pair_one k φ

pair-number : (W : WholeTerms) (k : ℕ) (φ : List ℕ → ℤ) → ((t : List ℕ × ℤ) → Among t W → t.0 ≡ [])
    → pair (in_monomials W k) φ ≡ total (λ (t : List ℕ × ℤ). t.1) W *ℤ φ (no_exponents k)
pair-number W k φ empty = pair_of_combined (λ label. monomial label k) W φ ∙ by W empty
  where
    by : (V : WholeTerms) → ((t : List ℕ × ℤ) → Among t V → t.0 ≡ [])
        → total (λ (t : List ℕ × ℤ). t.1 *ℤ pair (monomial t.0 k) φ) V ≡ total (λ (t : List ℕ × ℤ). t.1) V *ℤ φ (no_exponents k)
    by [] h = sym (zero-*ℤ (φ (no_exponents k)))
    by (t ∷ V) h =
        ap₂ ◌+ℤ◌
        (ap (λ z. t.1 *ℤ z) (ap (λ l. pair (monomial l k) φ) (h t (inl refl)) ∙ pair-empty k φ))
        (by V (λ u m. h u (inr m)))
        ∙ sym (distributes_right t.1 (total (λ (t : List ℕ × ℤ). t.1) V) (φ (no_exponents k)))

no_cells : (parts : List ℕ) → ArePositive parts → size parts ≤ 0 → parts ≡ []
no_cells [] p h = refl
no_cells (a ∷ parts) p h = absurd (let s = p.0 in omega arith)

-- `outer` is a list in the monomial basis m with no label except the empty partition; in every number k of variables it expands f(k), divided by q
module _ (outer : Terms (List ℕ)) (f : ℕ → Poly) (q : ℕ) (is : IsFractionTable outer) (none : AreWithin 0 outer)
    (x : (k : ℕ) → IsExpansionOf Basis.monomials outer k (f k) q) where
  abbrev Q : ℕ
  Q = denominators outer

  abbrev number : ℤ
  number = total (λ (t : List ℕ × ℤ). t.1) (over Q outer)

  empty : (t : List ℕ × ℤ) → Among t (over Q outer) → t.0 ≡ []
  empty t m =
      let (u, i, e) = Among_from_map (λ (t : List ℕ × Fraction). (t.0, t.1.0 *ℤ pos (Q / t.1.1))) t outer m in
      ap (λ (v : List ℕ × ℤ). v.0) e ∙ no_cells u.0 ((label_of outer u.0 u.1 is i).0.positive) (none u i)

  pair-value : (k : ℕ) (φ : List ℕ → ℤ) → pos q *ℤ (number *ℤ φ (no_exponents k)) ≡ pos Q *ℤ pair (f k) φ
  pair-value k φ =
      ap (λ z. pos q *ℤ z) (sym (pair-number (over Q outer) k φ empty))
      ∙ ap (λ g. pos q *ℤ pair g φ) (sym (cleared-over Q k outer))
      ∙ sym (pair_scale (pos q) (value_by (λ label. monomial label k) outer) φ)
      ∙ pair_determined (scale (pos q) (value_by (λ label. monomial label k) outer)) (scale (pos Q) (f k)) φ ((x k).equal)
      ∙ pair_scale (pos Q) (f k) φ

  pair-substituted : (n : ℕ) (γs : List (List ℕ)) (φ : List ℕ → ℤ) → HavePlaces n γs
      → pos q *ℤ (number *ℤ φ (no_exponents n)) ≡ pos Q *ℤ pair (substitute n γs (f (length γs))) φ
  pair-substituted n γs φ h =
      ap (λ α. pos q *ℤ (number *ℤ φ α)) (sym (replaced-zeros n (length γs) γs h))
      ∙ pair-value (length γs) (λ α. φ (replaced n γs α))
      ∙ ap (λ z. pos Q *ℤ z) (sym (pair-substitute n γs (f (length γs)) φ))

  same_constant : (n : ℕ) (γs δs : List (List ℕ)) → HavePlaces n γs → HavePlaces n δs
      → Same (substitute n γs (f (length γs))) (substitute n δs (f (length δs)))
  same_constant n γs δs h k =
      let A = substitute n γs (f (length γs)) in
      let B = substitute n δs (f (length δs)) in
      same_from_pair A B
      (λ φ.
      product_cancel (pair A φ) (pair B φ) Q ((x 0).positive)
      (*ℤ_comm (pair A φ) (pos Q) ∙ sym (pair-substituted n γs φ h) ∙ pair-substituted n δs φ k ∙ *ℤ_comm (pos Q) (pair B φ)))

  pub constant-expansion : (target : Basis) (list : Terms (List ℕ)) (n : ℕ) (γs δs : List (List ℕ)) → HavePlaces n γs → HavePlaces n δs
      → IsExpansionOf target list n (substitute n γs (f (length γs))) q → IsExpansionOf target list n (substitute n δs (f (length δs))) q
  constant-expansion target list n γs δs h k y = record {
    positive = y.positive;
    equal = λ α.
        y.equal α
        ∙ scale_respects (pos (denominators list)) (substitute n γs (f (length γs))) (substitute n δs (f (length δs))) (same_constant n γs δs h k) α;
  }
