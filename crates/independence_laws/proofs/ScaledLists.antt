-- A list of terms with each coefficient multiplied by a number.
use Rattle.std.proofs.Common.{◌≡◌, Bool, true, false, cond, refl, sym, ◌∙◌, ℤ, pos, ◌*ℤ◌}
use lib.IntN.{*ℤ-zero}
use Rattle.sym_model.specs.Sum.{total}
use Rattle.sym_model.specs.Polynomial.{scale}
use Rattle.sym_model.specs.WholeTerms.{WholeTermsOf, coefficient_by}
use Rattle.sym_model.proofs.Ring.{product_assoc}
use Rattle.sym_model.proofs.Sums.{total_map, total_ext, total_scale}
use Rattle.sym_model.proofs.Integers.{times_chosen}

pub total_of_scaled : {Label : Type 0} (g : Label → ℤ) (c : ℤ) (terms : WholeTermsOf Label)
    → total (λ (t : Label × ℤ). t.1 *ℤ g t.0) (scale c terms) ≡ c *ℤ total (λ (t : Label × ℤ). t.1 *ℤ g t.0) terms
total_of_scaled {Label = Label} g c terms =
    total_map (λ (t : Label × ℤ). t.1 *ℤ g t.0) (λ (t : Label × ℤ). (t.0, c *ℤ t.1)) terms
    ∙ total_ext (λ (t : Label × ℤ). (c *ℤ t.1) *ℤ g t.0) (λ (t : Label × ℤ). c *ℤ (t.1 *ℤ g t.0)) (λ t. product_assoc c t.1 (g t.0)) terms
    ∙ total_scale c (λ (t : Label × ℤ). t.1 *ℤ g t.0) terms

pub coefficient_of_scaled : {Label : Type 0} (test : Label → Label → Bool) (c : ℤ) (terms : WholeTermsOf Label) (label : Label) → coefficient_by test (scale c terms) label ≡ c *ℤ coefficient_by test terms label
coefficient_of_scaled {Label = Label} test c terms label =
    total_map (λ (t : Label × ℤ). cond (test t.0 label) t.1 (pos 0)) (λ (t : Label × ℤ). (t.0, c *ℤ t.1)) terms
    ∙ total_ext (λ (t : Label × ℤ). cond (test t.0 label) (c *ℤ t.1) (pos 0)) (λ (t : Label × ℤ). c *ℤ cond (test t.0 label) t.1 (pos 0)) (λ t. times_chosen (test t.0 label) c t.1) terms
    ∙ total_scale c (λ (t : Label × ℤ). cond (test t.0 label) t.1 (pos 0)) terms
