-- A list of terms with integer coefficients, each divided by a number that divides them all. A list in m is a list of terms c·m_λ.
use Rattle.std.proofs.Common.{◌≡◌, ℕ, ◌<◌, List, [], ◌∷◌, length, sym, ◌∙◌, ap, ap₂, subst, refl, inl, inr, ℤ, pos, ◌*ℤ◌, int_div, unsigned_abs}
use Rattle.std.specs.Int.{◌∣◌}
use Rattle.std.proofs.Math.Nat.{dvd-mul_right}
use Rattle.std.proofs.lemmas.Int.{unsigned_abs-mul}
use Rattle.fraction_laws.proofs.Fractions.{quotient_times}
use Rattle.sym_model.specs.Bases.{monomial}
use Rattle.sym_model.specs.Polynomial.{Poly, Same, coefficient, scale}
use Rattle.sym_model.specs.Sum.{Among}
use Rattle.sym_model.specs.WholeTerms.{WholeTerms}
use Rattle.sym_model.proofs.Integers.{product_cancel}
use Rattle.sym_model.proofs.Polynomials.{coefficient_scale}
use Rattle.sym_model.proofs.WholeTerms.{combined_respects}
use Rattle.monomial_laws.specs.ExpressionTerms.{in_monomials, IsList}
use Rattle.monomial_laws.proofs.ExpressionTerms.{list-scale}
use Rattle.linear_combinations.proofs.Found.{coefficient_of_term}
use Rattle.sparse_polys.specs.Tables.{IsWholeTable}
use Rattle.sparse_polys.proofs.Bounds.{coefficient-list}
use Rattle.sparse_polys.proofs.WholeLists.{label-partition}
use Rattle.plethysm.proofs.NumeratorLists.{mapped}
use lib.IntN.{*ℤ_comm}

abbrev pub divided_by : ℕ → ℤ → ℤ
divided_by k z = int_div z (pos k)

times-divided : (k : ℕ) (W : WholeTerms) → ((t : List ℕ × ℤ) → Among t W → int_div t.1 (pos k) *ℤ pos k ≡ t.1) → scale (pos k) (mapped (divided_by k) W) ≡ W
times-divided k [] h = refl
times-divided k (t ∷ W) h =
    ap₂ ◌∷◌ (ap (λ (z : ℤ). (t.0, z)) (*ℤ_comm (pos k) (int_div t.1 (pos k)) ∙ h t (inl refl))) (times-divided k W (λ u m. h u (inr m)))

-- if the list W in m is k times the polynomial f(n) in every number n of variables, then the list of the quotients of its coefficients by k is f(n)
pub list-divided : (k : ℕ) (W V : WholeTerms) (f : ℕ → Poly) → 0 < k → IsWholeTable W → Same V (mapped (divided_by k) W) → IsList W (λ n. scale (pos k) (f n)) → IsList V f
list-divided k W V f some is same h n α =
    product_cancel (coefficient (in_monomials V n) α) (coefficient (f n) α) k some
    (*ℤ_comm (coefficient (in_monomials V n) α) (pos k)
    ∙ sym (coefficient_scale (pos k) (in_monomials V n) α)
    ∙ sym (list-scale (pos k) V n α)
    ∙ combined_respects (λ label. monomial label n) (scale (pos k) V) W times α
    ∙ h n α
    ∙ coefficient_scale (pos k) (f n) α
    ∙ *ℤ_comm (pos k) (coefficient (f n) α))
  where
    exact : (t : List ℕ × ℤ) → Among t W → int_div t.1 (pos k) *ℤ pos k ≡ t.1
    exact t m =
        let x = coefficient (f (length t.0)) t.0 in
        let e : t.1 ≡ pos k *ℤ coefficient (f (length t.0)) t.0 =
        sym (coefficient_of_term W is.distinct t m) ∙ coefficient-list W (λ n. scale (pos k) (f n)) h t.0 (label-partition W is t m)
        ∙ coefficient_scale (pos k) (f (length t.0)) t.0 in
        quotient_times t.1 k (subst (λ z. k ∣ z) (sym (ap unsigned_abs e ∙ unsigned_abs-mul (pos k) x)) (dvd-mul_right k (unsigned_abs x)))

    times : Same (scale (pos k) V) W
    times label =
        coefficient_scale (pos k) V label
        ∙ ap (λ z. pos k *ℤ z) (same label)
        ∙ sym (coefficient_scale (pos k) (mapped (divided_by k) W) label)
        ∙ ap (λ (X : WholeTerms). coefficient X label) (times-divided k W exact)
