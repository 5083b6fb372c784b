-- Plethysm by way of power sums: if f is the sum of the terms c·p_λ, then f[g] is the sum of the c·p_λ[g].
use Rattle.std.proofs.Common.{◌≡◌, ℕ, List, [], ◌∷◌, length, sym, ◌∙◌, ap, ap₂, refl, inl, inr, ℤ, ◌+ℤ◌, ◌*ℤ◌}
use Rattle.sym_model.specs.Sum.{total}
use Rattle.sym_model.specs.Partition.{ArePositive}
use Rattle.sym_model.specs.Polynomial.{Poly, Same, pair}
use Rattle.sym_model.specs.Bases.{power_sum, product_over}
use Rattle.sym_model.specs.WholeTerms.{WholeTerms, combined, HaveLabels}
use Rattle.sym_model.proofs.Polynomials.{pair_determined, same_from_pair}
use Rattle.sym_model.proofs.WholeTerms.{pair_of_combined}
use Rattle.sym_model.specs.Plethysm.{replaced, substitute}
use Rattle.plethysm_laws.specs.PowerSumPlethysm.{dilated}
use Rattle.plethysm_laws.specs.SumsOfMonomials.{HavePlaces, monomial_sum}
use Rattle.plethysm_laws.proofs.Substitutions.{pair-substitute, substitute-power_sum}

-- the sum of c·p_λ[g] over the terms (λ, c) of the list W
abbrev pub plethysm_of_power_sums : WholeTerms → Poly → ℕ → Poly
plethysm_of_power_sums W g n = combined (λ label. product_over (λ k m. dilated k g) label n) W

pub substitute-combined : (n : ℕ) (γs : List (List ℕ)) (g : Poly) (W : WholeTerms) → HaveLabels ArePositive W → HavePlaces n γs → Same (monomial_sum γs) g
    → Same (substitute n γs (combined (λ label. power_sum label (length γs)) W)) (plethysm_of_power_sums W g n)
substitute-combined n γs g W p h e =
    same_from_pair (substitute n γs (combined (λ label. power_sum label (length γs)) W)) (plethysm_of_power_sums W g n)
    (λ φ.
    pair-substitute n γs (combined (λ label. power_sum label (length γs)) W) φ
    ∙ pair_of_combined (λ label. power_sum label (length γs)) W (λ α. φ (replaced n γs α))
    ∙ by φ W p
    ∙ sym (pair_of_combined (λ label. product_over (λ k m. dilated k g) label n) W φ))
  where
    by : (φ : List ℕ → ℤ) (V : WholeTerms) → HaveLabels ArePositive V
        → total (λ (t : List ℕ × ℤ). t.1 *ℤ pair (power_sum t.0 (length γs)) (λ α. φ (replaced n γs α))) V
        ≡ total (λ (t : List ℕ × ℤ). t.1 *ℤ pair (product_over (λ k m. dilated k g) t.0 n) φ) V
    by φ [] p = refl
    by φ (t ∷ V) p =
        ap₂ ◌+ℤ◌
        (ap (λ z. t.1 *ℤ z)
        (sym (pair-substitute n γs (power_sum t.0 (length γs)) φ)
        ∙ pair_determined (substitute n γs (power_sum t.0 (length γs))) (product_over (λ k m. dilated k g) t.0 n) φ (substitute-power_sum t.0 n γs g (p t (inl refl)) h e)))
        (by φ V (λ u m. p u (inr m)))
