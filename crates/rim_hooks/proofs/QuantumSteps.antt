-- Quantum products in k variables that are reduced after each factor.
--     quantum_none         if there are at least two factors, and one has more than k rows, the steps lead to the empty list
use Rattle.std.proofs.Common.{◌≡◌, ◌⊎◌, ℕ, ◌<◌, ◌≤◌, List, [], ◌∷◌, ◌++◌, length, refl, sym, ap, subst, inl, inr, arith, pos, rules}
use Rattle.sym_model.specs.Sum.{Among}
use Rattle.sym_model.specs.Partition.{IsPartition, rows, ArePartitions}
use Rattle.sym_model.specs.WholeTerms.{WholeTerms, coefficient_by, same_power}
use Rattle.sym_model.specs.Reductions.{reduced_terms}
use Rattle.sym_model.specs.ReductionSteps.{IsQuantumStep, StepsLead, IsReducedInSteps, with_power}
use Rattle.beta_list_laws.specs.ReductionLists.{reductions_of}
use Rattle.product_laws.specs.FactorSteps.{quantized, PowerTerms, HasLong}
use Rattle.product_laws.proofs.QuantumSteps.{quantum_step_made, quantum_step_some}
use Rattle.rim_hooks.proofs.ClassicalLists.{classical_long_left, classical_long_right}
use Rattle.rim_hooks.proofs.FactorSteps.{none_stays, vanishes}

step_none : (k n : ℕ) → 1 ≤ n → (factor : List ℕ) → IsQuantumStep k n factor [] []
step_none k n h factor = quantum_step_made k n factor [] [] h tt (λ label. refl)

nothing_quantized : (k n : ℕ) (factor : List ℕ) (terms : PowerTerms) → IsPartition factor → k < rows factor → quantized k n factor terms ≡ []
nothing_quantized k n factor [] p l = refl
nothing_quantized k n factor (t ∷ terms) p l = search (rules, classical_long_right, (nothing_quantized k n factor terms p l))

step_long : (k n : ℕ) → 1 ≤ n → (factor : List ℕ) (terms : PowerTerms) → IsPartition factor → k < rows factor → IsQuantumStep k n factor terms []
step_long k n h factor terms p l =
    quantum_step_made k n factor terms [] h tt (λ label. ap (λ (xs : PowerTerms). coefficient_by same_power xs label) (sym (nothing_quantized k n factor terms p l)))

pub quantum_none : (k n : ℕ) (factors : List (List ℕ)) → 1 ≤ n → 2 ≤ length factors → ArePartitions factors → HasLong k factors → IsReducedInSteps k n factors []
quantum_none k n [] h l p g = absurd (omega arith)
quantum_none k n (first ∷ []) h l p g = absurd (omega arith)
quantum_none k n (first ∷ second ∷ factors) h l p g = by g.1
  where
    by : (g.0 ≡ first) ⊎ Among g.0 (second ∷ factors) → StepsLead (IsQuantumStep k n) (((0, first), pos 1) ∷ []) (second ∷ factors) []
    by (inl e) =
        let long = subst (λ parts. k < rows parts) e g.2 in
        let made : IsQuantumStep k n second (((0, first), pos 1) ∷ []) [] =
        quantum_step_made k n second (((0, first), pos 1) ∷ []) [] h tt
        (λ label.
        ap (λ (xs : WholeTerms). coefficient_by same_power (with_power 0 (pos 1) (reduced_terms xs (reductions_of k n xs)) ++ []) label)
        (sym (classical_long_left k first second (p first (inl refl)) long))) in
        ([], made, none_stays (IsQuantumStep k n) k (step_none k n h) (step_long k n h) (quantum_step_some k n h) factors)
    by (inr m) =
        vanishes (IsQuantumStep k n) k (step_none k n h) (step_long k n h) (quantum_step_some k n h) (second ∷ factors) (((0, first), pos 1) ∷ [])
        (λ parts q. p parts (inr q)) (g.0, m, g.2)
