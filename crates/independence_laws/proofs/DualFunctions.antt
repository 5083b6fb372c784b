-- A family of polynomials is linearly independent if it has dual functions: for each label a function of exponents
-- that gives 1 for the polynomial of
-- this label and 0 for those of other labels.
use Rattle.std.proofs.Common.{◌≡◌, ℕ, Bool, true, false, cond, sym, ap, ◌∙◌, arith, ℤ, pos, ◌*ℤ◌, List}
use Rattle.std.proofs.lemmas.Int.{ints}
use lib.IntN.{*ℤ-zero}
use Rattle.independence_laws.specs.Independence.{AreIndependent}
use Rattle.sym_model.specs.Polynomial.{Poly, Same, nothing, pair}
use Rattle.sym_model.specs.WholeTerms.{WholeTermsOf, coefficient_by, combined, HaveLabels}
use Rattle.sym_model.proofs.Sums.{total_among}
use Rattle.sym_model.proofs.Polynomials.{pair_determined}
use Rattle.sym_model.proofs.WholeTerms.{pair_of_combined}
use Rattle.sym_model.proofs.Integers.{chosen_as_product}

-- dual functions: φ(x) applied to the polynomial of y is 1 if x is y, and otherwise 0
pub independent_by_duals : {Label : Type 0} (test : Label → Label → Bool) (P : Label → Type 0) (polynomial : Label → Poly) (φ : Label → List ℕ → ℤ)
    → ((x label : Label) → P x → P label → pair (polynomial x) (φ label) ≡ cond (test x label) (pos 1) (pos 0))
    → AreIndependent test P polynomial
independent_by_duals {Label = Label} test P polynomial φ dual = record { zero = zero }
  where
    zero : (terms : WholeTermsOf Label) → HaveLabels P terms → Same (combined polynomial terms) nothing
        → (label : Label) → P label → coefficient_by test terms label ≡ pos 0
    zero terms h z label p =
        total_among (λ (t : Label × ℤ). cond (test t.0 label) t.1 (pos 0)) (λ (t : Label × ℤ). t.1 *ℤ pair (polynomial t.0) (φ label)) terms
        (λ t m. chosen_as_product (test t.0 label) t.1 ∙ ap (λ n. t.1 *ℤ n) (sym (dual t.0 label (h t m) p)))
        ∙ sym (pair_of_combined polynomial terms (φ label))
        ∙ pair_determined (combined polynomial terms) nothing (φ label) z

-- the same, if for each label some such function exists
pub independent_by_some_duals : {Label : Type 0} (test : Label → Label → Bool) (P : Label → Type 0) (polynomial : Label → Poly)
    → ((label : Label) → P label → (φ : List ℕ → ℤ) × ((x : Label) → P x → pair (polynomial x) φ ≡ cond (test x label) (pos 1) (pos 0))) → AreIndependent test P polynomial
independent_by_some_duals {Label = Label} test P polynomial dual = record {
  zero = λ terms h z label p.
      let δ = dual label p in
      total_among (λ (t : Label × ℤ). cond (test t.0 label) t.1 (pos 0)) (λ (t : Label × ℤ). t.1 *ℤ pair (polynomial t.0) δ.0) terms
      (λ t m. chosen_as_product (test t.0 label) t.1 ∙ ap (λ n. t.1 *ℤ n) (sym (δ.1 t.0 (h t m))))
      ∙ sym (pair_of_combined polynomial terms δ.0)
      ∙ pair_determined (combined polynomial terms) nothing δ.0 z;
}

pub independent-fewer : {Label : Type 0} (test : Label → Label → Bool) (P Q : Label → Type 0) (polynomial : Label → Poly) → ((x : Label) → Q x → P x) → AreIndependent test P polynomial → AreIndependent test Q polynomial
independent-fewer test P Q polynomial h independent = record { zero = λ terms k z label q. independent.zero terms (λ t m. h t.0 (k t m)) z label (h label q) }
