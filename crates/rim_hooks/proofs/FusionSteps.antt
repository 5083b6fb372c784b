-- Fusion products in k variables that are reduced after each factor.
--     fusion_none          if there are at least two factors, and one has more than k rows, the steps lead to the empty list
use Rattle.std.proofs.Common.{◌≡◌, ◌⊎◌, ℕ, ◌<◌, ◌≤◌, List, [], ◌∷◌, ◌++◌, length, refl, sym, ap, subst, inl, inr, arith, pos, rules}
use Rattle.sym_model.specs.Sum.{Among}
use Rattle.sym_model.specs.Polynomial.{coefficient, scale}
use Rattle.sym_model.specs.Partition.{IsPartition, rows, ArePartitions}
use Rattle.sym_model.specs.WholeTerms.{WholeTerms}
use Rattle.sym_model.specs.Reductions.{reflected_terms}
use Rattle.sym_model.specs.ReductionSteps.{IsFusionStep, StepsLead, IsReflectedInSteps}
use Rattle.product_laws.specs.FactorSteps.{fused, HasLong}
use Rattle.product_laws.proofs.FusionSteps.{fusion_step_some}
use Rattle.rim_hooks.proofs.ClassicalLists.{classical_long_left, classical_long_right}
use Rattle.rim_hooks.proofs.FactorSteps.{none_stays, vanishes}

step_none : (k n : ℕ) (factor : List ℕ) → IsFusionStep k n factor [] []
step_none k n factor = record { collected = tt; sums = λ label. refl }

nothing_fused : (k n : ℕ) (factor : List ℕ) (terms : WholeTerms) → IsPartition factor → k < rows factor → fused k n factor terms ≡ []
nothing_fused k n factor [] p l = refl
nothing_fused k n factor (t ∷ terms) p l = search (rules, classical_long_right, (nothing_fused k n factor terms p l))

step_long : (k n : ℕ) (factor : List ℕ) (terms : WholeTerms) → IsPartition factor → k < rows factor → IsFusionStep k n factor terms []
step_long k n factor terms p l = record {
  collected = tt;
  sums = λ label. ap (λ (xs : WholeTerms). coefficient xs label) (sym (nothing_fused k n factor terms p l));
}

pub fusion_none : (k n : ℕ) (factors : List (List ℕ)) → 2 ≤ length factors → ArePartitions factors → HasLong k factors → IsReflectedInSteps k n factors []
fusion_none k n [] l p g = absurd (omega arith)
fusion_none k n (first ∷ []) l p g = absurd (omega arith)
fusion_none k n (first ∷ second ∷ factors) l p g = by g.1
  where
    by : (g.0 ≡ first) ⊎ Among g.0 (second ∷ factors) → StepsLead (IsFusionStep k n) ((first, pos 1) ∷ []) (second ∷ factors) []
    by (inl e) =
        let long = subst (λ parts. k < rows parts) e g.2 in
        let made : IsFusionStep k n second ((first, pos 1) ∷ []) [] = record {
          collected = tt;
          sums = λ label.
              ap (λ (xs : WholeTerms). coefficient (scale (pos 1) (reflected_terms k n xs) ++ []) label) (sym (classical_long_left k first second (p first (inl refl)) long));
        } in
        ([], made, none_stays (IsFusionStep k n) k (step_none k n) (step_long k n) (fusion_step_some k n) factors)
    by (inr m) =
        vanishes (IsFusionStep k n) k (step_none k n) (step_long k n) (fusion_step_some k n) (second ∷ factors) ((first, pos 1) ∷ [])
        (λ parts q. p parts (inr q)) (g.0, m, g.2)
