-- Lists in m (lists of terms c·m_λ) whose coefficients are fractions c/1 with integers c ≥ 0, and the lists of the numerators of such lists.
use Rattle.std.proofs.Common.{◌≡◌, ℕ, ◌+◌, ◌*◌, ◌/◌, ◌%◌, ◌<◌, ◌≤◌, List, [], ◌∷◌, length, sym, ◌∙◌, ap, ap₂, subst, refl, inl, inr, arith, ℤ, pos, ◌*ℤ◌}
use Rattle.std.specs.Prelude.{◌≤ℤ◌}
use Rattle.std.specs.List.{IsDistinct}
use Rattle.std.proofs.lemmas.Int.{ints}
use Rattle.std.proofs.lemmas.Nat.Gcd.{dvd_of_mod-eq-zero, le_of_dvd}
use Rattle.sym_model.specs.Sum.{Among}
use Rattle.sym_model.specs.Partition.{size}
use Rattle.sym_model.specs.Bases.{monomial}
use Rattle.sym_model.specs.Expansion.{Basis, Fraction, Terms, denominators, cleared, value_by, IsExpansionOf}
use Rattle.sym_model.specs.Expression.{Tree, cleared_value, denominator}
use Rattle.sym_model.specs.ListWeight as listed
use Rattle.sym_model.specs.Polynomial.{Poly, Same, coefficient, scale}
use Rattle.sym_model.specs.Weight.{numerator}
use Rattle.sym_model.specs.WholeTerms.{WholeTerms, numerators}
use Rattle.sym_model.proofs.Orders.{is_label-tells, is_reduced-tells}
use Rattle.sym_model.proofs.Polynomials.{coefficient_scale, Same_sym}
use Rattle.sym_model.proofs.Ring.{one-product}
use Rattle.sym_model.proofs.Sums.{Among-map, Among_from_map}
use Rattle.sym_model.proofs.WholeTerms.{combined_respects}
use Rattle.monomial_laws.specs.ExpressionTerms.{in_monomials, over}
use Rattle.monomial_laws.specs.Majorant.{IsBounded}
use Rattle.monomial_laws.proofs.DividedTerms.{cleared-over}
use Rattle.monomial_laws.proofs.Majorants.{bounded_respects}
use Rattle.plethysm_laws.specs.PositiveExpression.{HasNoSigns}
use Rattle.plethysm_laws.proofs.ListBounds.{bounded-list}
use Rattle.plethysm_laws.proofs.NonnegativeTerms.{coefficient-nonnegative, nonnegative-value, denominator-one}
use Rattle.linear_combinations.proofs.Found.{coefficient_of_term}
use Rattle.sparse_polys.specs.Tables.{equal, IsFractionTable, IsWholeTable}
use Rattle.sparse_polys.specs.MonomialProducts.{greatest_size}
use Rattle.sparse_polys.proofs.Rows.{greatest_size-among}
use Rattle.sparse_polys.proofs.Tables.{term-tests}
use Rattle.sparse_polys.specs.LabelSizes.{AreWithin}
use Rattle.sparse_polys.proofs.Bounds.{coefficient-list}
use Rattle.sparse_polys.proofs.WholeLists.{Once-keys, labels-same}
use Rattle.plethysm.specs.BoundedSums.{IsBoundedSum}
use Rattle.plethysm.specs.PlethysmLists.{AreNaturalNumbers}
use Rattle.plethysm.proofs.NumeratorLists.{keys-mapped}
use native.Mathlib.Nat.{mul-pos}

-- each coefficient of the list has the denominator 1
abbrev HaveOne : Terms (List ℕ) → Type 0
HaveOne terms = (t : List ℕ × Fraction) → Among t terms → t.1.1 ≡ 1

over-one : (terms : Terms (List ℕ)) → HaveOne terms → over 1 terms ≡ numerators terms
over-one [] h = refl
over-one (t ∷ terms) h =
    ap₂ (λ c ts. (t.0, c) ∷ ts) (one t.1.0 t.1.1 (h t (inl refl))) (over-one terms (λ u m. h u (inr m)))
  where
    one : (z : ℤ) (d : ℕ) → d ≡ 1 → z *ℤ pos (1 / d) ≡ z
    one z d e = ap (λ k. z *ℤ pos (1 / k)) e ∙ (let r : z *ℤ pos 1 ≡ z = omega (arith, ints) in r)

denominators-one : (terms : Terms (List ℕ)) → HaveOne terms → denominators terms ≡ 1
denominators-one [] h = refl
denominators-one (t ∷ terms) h = ap₂ ◌*◌ (h t (inl refl)) (denominators-one terms (λ u m. h u (inr m)))

-- W is the list `terms` with each coefficient replaced by its numerator
module _ (terms : Terms (List ℕ)) (W : WholeTerms) (same : Same W (numerators terms)) where
  same_in : (n : ℕ) → Same (in_monomials W n) (in_monomials (numerators terms) n)
  same_in n = combined_respects (λ label. monomial label n) W (numerators terms) same

  pub inner-value : HaveOne terms → (n : ℕ) (g : Poly) → IsExpansionOf Basis.monomials terms n g 1 → Same g (in_monomials W n)
  inner-value one n g x α =
      sym
      (same_in n α
      ∙ ap (λ V. coefficient (in_monomials V n) α) (sym (over-one terms one))
      ∙ sym (ap (λ f. coefficient f α) (cleared-over 1 n terms))
      ∙ ap (λ q. coefficient (cleared (λ label. monomial label n) q terms) α) (sym (denominators-one terms one))
      ∙ sym (one-product (coefficient (value_by (λ label. monomial label n) terms) α))
      ∙ sym (coefficient_scale (pos 1) (value_by (λ label. monomial label n) terms) α)
      ∙ x.equal α
      ∙ ap (λ q. coefficient (scale (pos q) g) α) (denominators-one terms one)
      ∙ coefficient_scale (pos 1) g α
      ∙ one-product (coefficient g α))

module _ (terms : Terms (List ℕ)) (W : WholeTerms) (same : Same W (numerators terms)) (is : IsFractionTable terms) (also : IsWholeTable W) where
  pub within-inner : AreWithin (greatest_size terms) W
  within-inner =
      labels-same (λ (label : List ℕ). size label ≤ greatest_size terms) W (numerators terms) also same
      (λ t m.
      let u = Among_from_map (λ (u : List ℕ × Fraction). (u.0, u.1.0)) t terms m in
      let e = ap (λ (v : List ℕ × ℤ). size v.0) u.2 in
      let g = greatest_size-among terms u.0 u.1 in
      omega arith)

  pub bounded_sum : (K D b : ℕ) → 1 ≤ K → D ≡ 1 → AreNaturalNumbers terms → AreWithin b terms → listed.IsBounded K D terms → IsBoundedSum (K * (b + 1)) b W
  bounded_sum K D b k e natural w bounded = record {
    some = omega (arith, mul-pos k (let s : 0 < b + 1 = omega arith in s));
    natural = λ t m.
        subst (λ z. pos 0 ≤ℤ z) (sym (same t.0) ∙ coefficient_of_term W also.distinct t m)
        (coefficient-nonnegative (numerators terms)
        (λ u n. let r = Among_from_map (λ (u : List ℕ × Fraction). (u.0, u.1.0)) u terms n in subst (λ (v : List ℕ × ℤ). pos 0 ≤ℤ v.1) (sym r.2) (natural r.0 r.1).1) t.0);
    bounded = λ n.
        let other = in_monomials (numerators terms) n in
        bounded_respects (K * (b + 1)) b n other (in_monomials W n) (Same_sym (in_monomials W n) other (same_in terms W same n))
        (subst (λ V. IsBounded (K * (b + 1)) b n (in_monomials V n)) (over-one terms (λ t m. (natural t m).0))
        (bounded-list K 1 b n terms (Once-keys terms is) w (subst (λ d. listed.IsBounded K d terms) e bounded)));
  }

-- if an expression has no minus signs and no fractions (`HasNoSigns`), the coefficients of its list in the monomial basis m are integers and not
-- negative
pub natural-expansion : (e : Tree) (terms : Terms (List ℕ)) → HasNoSigns e → IsFractionTable terms → listed.IsBounded (numerator e) (denominator e) terms
    → ((n : ℕ) → IsExpansionOf Basis.monomials terms n (cleared_value e n) (denominator e)) → AreNaturalNumbers terms
natural-expansion e terms h is bounded x t m = (ones t m, subst (λ z. pos 0 ≤ℤ z) (sym at) (coefficient-nonnegative (cleared_value e (length t.0)) (nonnegative-value e (length t.0) h) t.0))
  where
    ones : HaveOne terms
    ones u n =
        let whole : 1 % u.1.1 ≡ 0 = subst (λ d. d % u.1.1 ≡ 0) (denominator-one e h) (bounded u n).0 in
        let low = le_of_dvd (let o : 0 < 1 = omega arith in o) (dvd_of_mod-eq-zero u.1.1 whole) in
        let some = (is_reduced-tells u.1 (term-tests terms is u n).0).denominator in
        omega arith

    at : t.1.0 ≡ coefficient (cleared_value e (length t.0)) t.0
    at =
        sym
        (coefficient_of_term (numerators terms) (subst (IsDistinct equal) (sym (keys-mapped (λ (c : Fraction). c.0) terms)) is.distinct) (t.0, t.1.0)
        (Among-map (λ (u : List ℕ × Fraction). (u.0, u.1.0)) t terms m))
        ∙ coefficient-list (numerators terms) (cleared_value e)
        (λ n. Same_sym (cleared_value e n) (in_monomials (numerators terms) n)
        (inner-value terms (numerators terms) (λ α. refl) ones n (cleared_value e n) (subst (λ d. IsExpansionOf Basis.monomials terms n (cleared_value e n) d) (denominator-one e h) (x n))))
        t.0 ((is_label-tells t.0 (term-tests terms is t m).1).partition)
