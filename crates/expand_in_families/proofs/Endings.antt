-- The last step of an expansion in the basis e, h or p. The list that represents an expression of degree d with the denominator D is D·d! times the
-- expression. If its coefficients are divided by D·d!, the result is the expansion of the expression in this basis.
use Rattle.std.proofs.Common.{◌≡◌, ℕ, ◌*◌, ◌<◌, List, sym, ap, ◌∙◌, ℤ, pos, ◌*ℤ◌}
use Rattle.sym_model.specs.Polynomial.{Poly, coefficient}
use Rattle.sym_model.specs.Bases.{product_over}
use Rattle.sym_model.specs.Expansion.{Terms, denominators, value_by, Represents}
use Rattle.sym_model.specs.WholeTerms.{WholeTerms, combined}
use Rattle.sym_model.proofs.Ring.{ring, product_turned}
use Rattle.sym_model.proofs.Polynomials.{at_only, coefficient_pair, coefficient_scale}
use Rattle.sym_model.proofs.WholeTerms.{pair_of_combined}
use Rattle.sparse_polys.specs.Tables.{IsFractionTable}
use Rattle.sparse_polys.proofs.Quotients.{Quotients, IsDivided-quotients}
use Rattle.monomial_laws.proofs.DividedTerms.{value-divided}
use Rattle.basis_change_laws.specs.JoinedLists.{Stands}
use Rattle.sym_model.proofs.Integers.{product_cancel}
use native.Mathlib.Nat.{mul-pos}

pub expansion-divided : (P : ℕ → ℕ → Poly) (q A d den : ℕ) (f : ℕ → Poly) (W : WholeTerms) (terms : Terms (List ℕ)) → 0 < q → 0 < den → Stands P q A d f W → IsFractionTable terms → Quotients (den * q) terms W
    → (n : ℕ) → Represents (λ label. product_over P label n) terms (f n) den
expansion-divided P q A d den f W terms some positive s is quotients n =
    let D = IsDivided-quotients (den * q) W terms (mul-pos positive some) is quotients in
    record {
      positive = D.positive;
      equal = λ α.
          let v = coefficient (value_by (λ label. product_over P label n) terms) α in
          let w = coefficient (combined (λ label. product_over P label n) W) α in
          let whole : coefficient (combined (λ label. product_over P label n) W) α ≡ pos q *ℤ coefficient (f n) α =
          coefficient_pair (combined (λ label. product_over P label n) W) α
          ∙ pair_of_combined (λ label. product_over P label n) W (at_only α)
          ∙ s.value n (at_only α) ∙ ap (λ z. pos q *ℤ z) (sym (coefficient_pair (f n) α)) in
          coefficient_scale (pos den) (value_by (λ label. product_over P label n) terms) α
          ∙ product_cancel (pos den *ℤ v) (pos (denominators terms) *ℤ coefficient (f n) α) q some
          (crossed (pos den) (pos q) (pos (denominators terms)) v w (coefficient (f n) α) (value-divided (λ label. product_over P label n) (den * q) W terms D α) whole)
          ∙ sym (coefficient_scale (pos (denominators terms)) (f n) α);
    }
  where
    crossed : (d q r v w f : ℤ) → (d *ℤ q) *ℤ v ≡ r *ℤ w → w ≡ q *ℤ f → (d *ℤ v) *ℤ q ≡ (r *ℤ f) *ℤ q
    crossed d q r v w f a b = one d v q ∙ a ∙ ap (λ z. r *ℤ z) b ∙ sym (product_turned r f q)
      where
        one : (d v q : ℤ) → (d *ℤ v) *ℤ q ≡ (d *ℤ q) *ℤ v
        one d v q = simp ring
