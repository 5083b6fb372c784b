-- Fusion products: reflecting into the alcove after each factor gives the same as reflecting the whole product once. The *classical product* of the
-- factors is the list of terms that expands the product of their Schur polynomials.
--     fusion_steps_meet    the result of multiplying and reflecting, factor by factor, is the classical product of all factors, reflected once
--     fusion_steps_answer  so this result is a reduction of the classical product into the alcove (`IsAlcoveReductionOf`)
--     fusion_in_steps      a collected list (`AreCollected`) that is the classical product, reflected once, results from multiplying and reflecting
--                          factor by factor
use Rattle.std.proofs.Common.{◌≡◌, ℕ, ◌+◌, ◌≤◌, List, [], ◌∷◌, ◌++◌, length, append-nil, rules}
use Rattle.std.proofs.Common.{append_assoc, pos, inl, refl, sym, ◌∙◌, ap, subst, arith}
use Rattle.sym_model.specs.Polynomial.{Same, same, coefficient, scale}
use Rattle.sym_model.specs.WholeTerms.{WholeTerms, as_fractions}
use Rattle.sym_model.specs.Products.{classical_product}
use Rattle.sym_model.specs.Reductions.{reflected_terms}
use Rattle.sym_model.specs.ReductionSteps.{AreCollected, IsFusionStep, StepsLead, IsReflectedInSteps}
use Rattle.sym_model.proofs.Ring.{one-product}
use Rattle.sym_model.proofs.Sums.{Among-append_left, Among-append_right}
use Rattle.sym_model.proofs.Exponents.{same_refl, same_true}
use Rattle.alternant_laws.proofs.WholeLists.{numerators-as_fractions}
use Rattle.product_laws.specs.FactorSteps.{fused}
use Rattle.product_laws.proofs.Fusion.{fusion_step}
use Rattle.product_laws.proofs.GatheredLists.{gathered, coefficient-gathered, collected-gathered}
use Rattle.product_laws.proofs.LeadingSteps.{last_changed, last_is, some_lead}
use Rattle.sym_model.specs.Partition.{ArePartitions}
use Rattle.sym_model.specs.Reductions.{IsAlcoveReductionOf}

-- ---- products that are reflected after each factor are the whole product, reflected once

pub are_front : (front back : List (List ℕ)) → ArePartitions (front ++ back) → ArePartitions front
are_front front back p parts m = p parts (Among-append_left parts front back m)

later_steps : (k n : ℕ) (front factors : List (List ℕ)) (terms last : WholeTerms) → 1 ≤ n → ArePartitions (front ++ factors)
    → Same terms (reflected_terms k n (classical_product k front)) → StepsLead (IsFusionStep k n) terms factors last
    → Same last (reflected_terms k n (classical_product k (front ++ factors)))
later_steps k n front [] terms last h p e lead label = search rules
later_steps k n front (factor ∷ factors) terms last h p e lead label =
    let whole : (front ++ (factor ∷ [])) ++ factors ≡ front ++ (factor ∷ factors) = append_assoc front (factor ∷ []) factors in
    let q : ArePartitions ((front ++ (factor ∷ [])) ++ factors) = subst ArePartitions (sym whole) p in
    later_steps k n (front ++ (factor ∷ [])) factors lead.0 last h q
    (λ l.
    lead.1.sums l
    ∙ fusion_step k n front factor terms h (are_front front (factor ∷ factors) p) (p factor (Among-append_right factor front (factor ∷ factors) (inl refl))) e l)
    lead.2 label
    ∙ ap (λ (l : List (List ℕ)). coefficient (reflected_terms k n (classical_product k l)) label) whole

pub scale_one : (xs : WholeTerms) → scale (pos 1) xs ≡ xs
scale_one [] = refl
scale_one (x ∷ xs) = search (rules, one-product, (scale_one xs))

first_step : (k n : ℕ) (first second : List ℕ) → fused k n second ((first, pos 1) ∷ []) ≡ reflected_terms k n (classical_product k (first ∷ second ∷ []))
first_step k n first second =
    append-nil (scale (pos 1) (reflected_terms k n (classical_product k (first ∷ second ∷ [])))) ∙ scale_one (reflected_terms k n (classical_product k (first ∷ second ∷ [])))

pub fusion_steps_meet : (k n : ℕ) (factors : List (List ℕ)) (terms : WholeTerms) → 1 ≤ n → 2 ≤ length factors → ArePartitions factors
    → IsReflectedInSteps k n factors terms → Same terms (reflected_terms k n (classical_product k factors))
fusion_steps_meet k n [] terms h l p s = absurd (omega arith)
fusion_steps_meet k n (first ∷ []) terms h l p s = absurd (omega arith)
fusion_steps_meet k n (first ∷ second ∷ factors) terms h l p s =
    later_steps k n (first ∷ second ∷ []) factors s.0 terms h p
    (λ label. s.1.sums label ∙ ap (λ (xs : WholeTerms). coefficient xs label) (first_step k n first second))
    s.2

-- if a list of terms with integer coefficients results from multiplying and reflecting, factor by factor (`IsReflectedInSteps`), it is the classical
-- product of all factors, reduced into the alcove (`IsAlcoveReductionOf`)
pub fusion_steps_answer : (k level : ℕ) (factors : List (List ℕ)) (terms : WholeTerms)
    → 1 ≤ k + level → 2 ≤ length factors → ArePartitions factors
    → IsReflectedInSteps k (k + level) factors terms
    → IsAlcoveReductionOf k (k + level) (classical_product k factors) (as_fractions terms)
fusion_steps_answer k level factors terms h l p s = search (rules, numerators-as_fractions, fusion_steps_meet)

pub fusion_step_some : (k n : ℕ) (factor : List ℕ) (terms : WholeTerms) → (next : WholeTerms) × IsFusionStep k n factor terms next
fusion_step_some k n factor terms = (
  gathered same same_true same_refl (fused k n factor terms),
  record {
    collected = collected-gathered same same_true same_refl (fused k n factor terms);
    sums = coefficient-gathered same same_true same_refl (fused k n factor terms);
  },
)

pub fusion_steps_collect : (k n : ℕ) (factors : List (List ℕ)) (terms : WholeTerms) → 2 ≤ length factors → IsReflectedInSteps k n factors terms → AreCollected same terms
fusion_steps_collect k n [] terms l s = absurd (omega arith)
fusion_steps_collect k n (first ∷ []) terms l s = absurd (omega arith)
fusion_steps_collect k n (first ∷ second ∷ factors) terms l s =
    last_is (IsFusionStep k n) (AreCollected same) (λ factor given next step. step.collected) factors second ((first, pos 1) ∷ []) terms s

pub fusion_in_steps : (k n : ℕ) (factors : List (List ℕ)) (terms : WholeTerms) → 1 ≤ n → 2 ≤ length factors → ArePartitions factors
    → AreCollected same terms → Same terms (reflected_terms k n (classical_product k factors)) → IsReflectedInSteps k n factors terms
fusion_in_steps k n [] terms h l p c e = absurd (omega arith)
fusion_in_steps k n (first ∷ []) terms h l p c e = absurd (omega arith)
fusion_in_steps k n (first ∷ second ∷ factors) terms h l p c e =
    let start : WholeTerms = (first, pos 1) ∷ [] in
    let lead = some_lead (IsFusionStep k n) (fusion_step_some k n) (second ∷ factors) start in
    let whole = fusion_steps_meet k n (first ∷ second ∷ factors) lead.0 h l p lead.1 in
    last_changed (IsFusionStep k n) lead.0 terms
    (λ factor given step. record { collected = c; sums = λ label. e label ∙ sym (whole label) ∙ step.sums label })
    factors second start lead.1
