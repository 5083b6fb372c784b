-- A term of a product is reduced by removing rim hooks from its partition. The sum of the reductions of all terms does not depend on the order in
-- which the rim hooks are removed: if a list of terms is this sum for one choice of the reductions, it is this sum for every choice.
--     any_reductions         for the classical product, and a list of terms with fractions as coefficients
--     any_whole_reductions   for the classical product, and a list of terms with integers as coefficients
--     any_step_reductions    for the product of a list of terms and one more factor
use Rattle.std.proofs.Common.{ℕ, ◌≤◌, List, sym, ◌∙◌, rules}
use Rattle.sym_model.specs.Expansion.{Terms}
use Rattle.sym_model.specs.ReductionSteps.{IsQuantumStep, ReduceEach, reduced_each}
use Rattle.sym_model.specs.Reductions.{AreReductions, IsRimHookReduction, Reduction}
use Rattle.sym_model.specs.Products.{classical_product}
use Rattle.sym_model.specs.Reductions.{reduced_terms}
use Rattle.sym_model.specs.WholeTerms.{WholeTermsOf, as_fractions, numerators}
use Rattle.sym_model.specs.WholeTerms.{same_power}
use Rattle.alternant_laws.proofs.WholeLists.{numerators-as_fractions}
use Rattle.product_laws.proofs.GatheredLists.{gathered, coefficient-gathered, collected-gathered}
use Rattle.product_laws.proofs.QuantumSteps.{power_true, power_self, quantum_step_is}
use Rattle.product_laws.proofs.RimHookSteps.{classical_only}
use Rattle.rim_hooks.specs.AnyOrder.{HaveSameSums}

pub any_reductions : (k n : ℕ) (factors : List (List ℕ)) (terms : Terms (ℕ × List ℕ))
    (reductions : List Reduction) → 1 ≤ n
    → AreReductions k n (classical_product k factors) reductions
    → IsRimHookReduction k n (classical_product k factors) terms
    → HaveSameSums (numerators terms) (reduced_terms (classical_product k factors) reductions)
any_reductions k n factors terms reductions h a r label = search (rules, classical_only)

-- if a list of terms with integer coefficients is the sum of the reductions of the classical product for one choice of the reductions, it is this sum
-- for every choice
pub any_whole_reductions : (k n : ℕ) (factors : List (List ℕ)) (terms : WholeTermsOf (ℕ × List ℕ))
    (reductions : List Reduction) → 1 ≤ n
    → AreReductions k n (classical_product k factors) reductions
    → IsRimHookReduction k n (classical_product k factors) (as_fractions terms)
    → HaveSameSums terms (reduced_terms (classical_product k factors) reductions)
any_whole_reductions k n factors terms reductions h a r = search (rules, numerators-as_fractions, any_reductions)

-- let a step of a quantum product with `factor` lead from `terms` to `next`. For every choice of the reductions of the products of the terms with
-- `factor` (`ReduceEach`), `next` is the sum of these reductions
pub any_step_reductions : (k n : ℕ) (factor : List ℕ) (terms next : WholeTermsOf (ℕ × List ℕ))
    (reductions : List (List Reduction)) → 1 ≤ n
    → ReduceEach k n factor terms reductions → IsQuantumStep k n factor terms next
    → HaveSameSums next (reduced_each k factor terms reductions)
any_step_reductions k n factor terms next reductions h a s label =
    let sums = reduced_each k factor terms reductions in
    let other : IsQuantumStep k n factor terms (gathered same_power power_true power_self sums) =
    record {
      reductions = reductions;
      reduce = a;
      collected = collected-gathered same_power power_true power_self sums;
      sums = coefficient-gathered same_power power_true power_self sums;
    } in
    quantum_step_is k n factor terms next h s label
    ∙ sym (quantum_step_is k n factor terms (gathered same_power power_true power_self sums) h other
    label)
    ∙ coefficient-gathered same_power power_true power_self sums label
