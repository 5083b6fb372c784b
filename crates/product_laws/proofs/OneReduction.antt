-- Two lists that are a reduction of the same product, by rim hooks or into the alcove, are the same formal sum.
use Rattle.std.proofs.Common.{◌≡◌, ℕ, ◌≤◌, List, sym, ap, ◌∙◌}
use Rattle.sym_model.specs.Polynomial.{Same}
use Rattle.sym_model.specs.Expansion.{Terms}
use Rattle.sym_model.specs.WholeTerms.{same_power, coefficient_by, numerators}
use Rattle.sym_model.specs.Reductions.{IsRimHookReduction, IsAlcoveReductionOf, reduced_terms}
use Rattle.sym_model.specs.Products.{classical_product}
use Rattle.product_laws.proofs.RimHookSteps.{classical_only}

pub one_rim_hook_sum : (k n : ℕ) (factors : List (List ℕ)) (xs ys : Terms (ℕ × List ℕ)) → 1 ≤ n
    → IsRimHookReduction k n (classical_product k factors) xs
    → IsRimHookReduction k n (classical_product k factors) ys
    → (label : ℕ × List ℕ)
    → coefficient_by same_power (numerators xs) label ≡ coefficient_by same_power (numerators ys) label
one_rim_hook_sum k n factors xs ys h r s label =
    let one : r.reductions ≡ s.reductions =
    classical_only k n factors r.reductions h r.reduce ∙ sym (classical_only k n factors s.reductions h s.reduce) in
    r.sums label
    ∙ ap (λ l. coefficient_by same_power (reduced_terms (classical_product k factors) l) label) one
    ∙ sym (s.sums label)

pub one_alcove_sum : (k n : ℕ) (factors : List (List ℕ)) (xs ys : Terms (List ℕ))
    → IsAlcoveReductionOf k n (classical_product k factors) xs
    → IsAlcoveReductionOf k n (classical_product k factors) ys
    → Same (numerators xs) (numerators ys)
one_alcove_sum k n factors xs ys r s label = r label ∙ sym (s label)
