-- Expansions in Schur polynomials of products, multiplied by one factor after another.
--     whole_value       if a list with integer coefficients expands f, the polynomial of the list is f
--     expansion_step    if a list expands a product, its terms, each multiplied by one more factor, expand the product with this factor
use Rattle.std.proofs.Common.{◌≤◌, ℕ, List, [], ◌∷◌, ◌++◌, sym, ◌∙◌, ap, pos, ◌*ℤ◌, Some, None}
use Rattle.sym_model.specs.Sum.{Among}
use Rattle.sym_model.specs.Polynomial.{Poly, Term, Same, coefficient, join, pair, scale, times}
use Rattle.sym_model.specs.Partition.{rows}
use Rattle.sym_model.specs.Schur.{schur}
use Rattle.sym_model.specs.Expansion.{schurs, Fraction, Terms, IsExpansionOf, denominators, value}
use Rattle.sym_model.specs.WholeTerms.{AreWhole, combined, numerators}
use Rattle.sym_model.specs.Products.{schur_product, ExpandsInSchurs}
use Rattle.sym_model.proofs.Ring.{one-product}
use Rattle.sym_model.proofs.Sums.{total_among}
use Rattle.sym_model.proofs.Polynomials.{coefficient_scale, pair_each, pair_scale, pair_times, pair_determined, same_from_pair}
use Rattle.sym_model.proofs.WholeTerms.{denominators_of_whole, value_of_whole, represents-whole, pair_of_combined}
use Rattle.product_laws.specs.FactorSteps.{products_of}
use Rattle.product_laws.proofs.ManyFactors.{product-last}

pub whole_value : (terms : Terms (List ℕ)) (n : ℕ) (f : Poly) → AreWhole terms → IsExpansionOf schurs terms n f 1 → Same (combined (λ label. schur label n) (numerators terms)) f
whole_value terms n f w e α =
    ap (λ g. coefficient g α) (sym (value_of_whole schurs terms n w))
    ∙ sym (coefficient_scale (pos 1) (value schurs terms n) α ∙ one-product (coefficient (value schurs terms n) α))
    ∙ e.equal α
    ∙ coefficient_scale (pos (denominators terms)) f α
    ∙ ap (λ d. pos d *ℤ coefficient f α) (denominators_of_whole terms w)
    ∙ one-product (coefficient f α)

pub expansion_step : (n : ℕ) (front : List (List ℕ)) (next : List ℕ) (products : List ℕ → Terms (List ℕ)) (terms after : Terms (List ℕ))
    → AreWhole terms → AreWhole after
    → ((t : Term) → Among t (numerators terms) → AreWhole (products t.0) × IsExpansionOf schurs (products t.0) n (schur_product (t.0 ∷ next ∷ []) n) 1)
    → IsExpansionOf schurs terms n (schur_product front n) 1
    → Same (numerators after) (products_of products (numerators terms))
    → IsExpansionOf schurs after n (schur_product (front ++ (next ∷ [])) n) 1
expansion_step n front next products terms after w v each_label e is =
    represents-whole (λ label. schur label n) after (schur_product (front ++ (next ∷ [])) n) v
    (same_from_pair (combined (λ label. schur label n) (numerators after)) (schur_product (front ++ (next ∷ [])) n) (λ φ.
    pair_of_combined (λ label. schur label n) (numerators after) φ
    ∙ pair_determined (numerators after) (products_of products (numerators terms)) (λ label. pair (schur label n) φ) is
    ∙ pair_each (λ (t : Term). scale t.1 (numerators (products t.0))) (numerators terms) (λ label. pair (schur label n) φ)
    ∙ total_among (λ (t : Term). pair (scale t.1 (numerators (products t.0))) (λ label. pair (schur label n) φ)) (λ (t : Term). t.1 *ℤ pair (schur t.0 n) (λ α. pair (schur next n) (λ β. φ (join α β)))) (numerators terms)
    (λ t m. let p = each_label t m in
    pair_scale t.1 (numerators (products t.0)) (λ label. pair (schur label n) φ)
    ∙ ap (λ z. t.1 *ℤ z)
    (sym (pair_of_combined (λ label. schur label n) (numerators (products t.0)) φ)
    ∙ pair_determined (combined (λ label. schur label n) (numerators (products t.0))) (times (schur t.0 n) (schur next n)) φ (whole_value (products t.0) n (schur_product (t.0 ∷ next ∷ []) n) p.0 p.1)
    ∙ pair_times (schur t.0 n) (schur next n) φ))
    ∙ sym (pair_of_combined (λ label. schur label n) (numerators terms) (λ α. pair (schur next n) (λ β. φ (join α β))))
    ∙ pair_determined (combined (λ label. schur label n) (numerators terms)) (schur_product front n) (λ α. pair (schur next n) (λ β. φ (join α β))) (whole_value terms n (schur_product front n) w e)
    ∙ sym (pair_determined (schur_product (front ++ (next ∷ [])) n) (times (schur_product front n) (schur next n)) φ (product-last n front next) ∙ pair_times (schur_product front n) (schur next n) φ)))

pub every_step : (front : List (List ℕ)) (next : List ℕ) (products : List ℕ → Terms (List ℕ)) (terms after : Terms (List ℕ))
    → AreWhole terms → AreWhole after
    → ((t : Term) → Among t (numerators terms) → AreWhole (products t.0) × ExpandsInSchurs None (schur_product (t.0 ∷ next ∷ [])) (products t.0))
    → ExpandsInSchurs None (schur_product front) terms
    → Same (numerators after) (products_of products (numerators terms))
    → ExpandsInSchurs None (schur_product (front ++ (next ∷ []))) after
every_step front next products terms after w v each_label e is n =
    expansion_step n front next products terms after w v (λ t m. let p = each_label t m in (p.0, p.1 n)) (e n) is

pub limited_step : (k : ℕ) (front : List (List ℕ)) (next : List ℕ) (products : List ℕ → Terms (List ℕ)) (terms after : Terms (List ℕ))
    → AreWhole terms → AreWhole after
    → ((t : Term) → Among t (numerators terms) → AreWhole (products t.0) × ExpandsInSchurs (Some k) (schur_product (t.0 ∷ next ∷ [])) (products t.0))
    → ExpandsInSchurs (Some k) (schur_product front) terms
    → Same (numerators after) (products_of products (numerators terms))
    → ((t : List ℕ × Fraction) → Among t after → rows t.0 ≤ k)
    → ExpandsInSchurs (Some k) (schur_product (front ++ (next ∷ []))) after
limited_step k front next products terms after w v each_label e is few =
    (expansion_step k front next products terms after w v (λ t m. let p = each_label t m in (p.0, p.1.0)) e.0 is, few)
