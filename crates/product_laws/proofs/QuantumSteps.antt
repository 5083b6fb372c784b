-- Quantum products: reducing by rim hooks after each factor gives the same as reducing the whole product once. A *step* multiplies a list of terms by
-- a factor and reduces the labels by rim hooks. A list is collected (`AreCollected`) if each label occurs once, with a coefficient other than 0.
--     quantum_step_made       a collected list with the coefficients of `quantized` is the result of a step
--     quantum_step_is         the result of each step is collected and has the coefficients of `quantized`
--     quantum_steps_meet      the result of the steps for all factors is the classical product of all factors, reduced once
--     quantum_steps_answer    so this result is a reduction of the classical product by rim hooks (`IsRimHookReduction`)
--     quantum_in_steps        a collected list that is the classical product, reduced once, is the result of the steps for all factors
use Rattle.std.proofs.Common.{◌≡◌, ℕ, ◌+◌, ◌≤◌, true, List, [], ◌∷◌, ◌++◌, map, length, refl, sym, ◌∙◌, ap, ap₂, subst, inl, arith, append-nil, append_assoc, ℤ, pos, rules}
use Rattle.std.proofs.lemmas.Bool.{and_parts, and_from, eq-eqb, eqb-true}
use Rattle.sym_model.specs.Expansion.{Terms}
use Rattle.sym_model.specs.WholeTerms.{coefficient_by, same_power, numerators, as_fractions}
use Rattle.sym_model.specs.Reductions.{Reduction, IsRimHookReduction}
use Rattle.sym_model.specs.Products.{classical_product}
use Rattle.sym_model.specs.ReductionSteps.{AreCollected, ReduceEach, reduced_each, IsQuantumStep, StepsLead, IsReducedInSteps, with_power}
use Rattle.sym_model.proofs.Ring.{one-product}
use Rattle.sym_model.proofs.Sums.{Among-append_right}
use Rattle.sym_model.proofs.Exponents.{same_refl, same_true}
use Rattle.beta_list_laws.specs.ReductionLists.{reductions_of}
use Rattle.beta_list_laws.proofs.ReducedSums.{are_reductions}
use Rattle.alternant_laws.proofs.WholeLists.{numerators-as_fractions}
use Rattle.product_laws.specs.FactorSteps.{reduced_product, quantized, PowerTerms}
use Rattle.product_laws.proofs.Quantum.{quantum_step}
use Rattle.product_laws.proofs.RimHookSteps.{classical_labels, classical_only}
use Rattle.product_laws.proofs.FusionSteps.{are_front}
use Rattle.product_laws.proofs.GatheredLists.{gathered, coefficient-gathered, collected-gathered}
use Rattle.product_laws.proofs.LeadingSteps.{last_changed, last_is, some_lead}
use Rattle.sym_model.specs.Partition.{ArePartitions}

-- ---- labels that consist of a power of q and a partition

pub power_true : (a b : ℕ × List ℕ) → same_power a b ≡ true → a ≡ b
power_true a b e =
    let p = and_parts _ _ e in
    let pair : ℕ → List ℕ → ℕ × List ℕ = λ x y. (x, y) in
    ap₂ pair (eqb-true a.0 b.0 p.0) (same_true a.1 b.1 p.1)

pub power_self : (a : ℕ × List ℕ) → same_power a a ≡ true
power_self a = and_from _ _ (eq-eqb a.0 a.0 refl) (same_refl a.1)

abbrev reductions_each : ℕ → ℕ → List ℕ → PowerTerms → List (List Reduction)
reductions_each k n factor terms = map (λ (t : (ℕ × List ℕ) × ℤ). reductions_of k n (classical_product k (t.0.1 ∷ factor ∷ []))) terms

reduce_each : (k n : ℕ) (factor : List ℕ) (terms : PowerTerms) → 1 ≤ n → ReduceEach k n factor terms (reductions_each k n factor terms)
reduce_each k n factor [] h = tt
reduce_each k n factor (t ∷ terms) h =
    (are_reductions k n (classical_product k (t.0.1 ∷ factor ∷ [])) h (classical_labels k (t.0.1 ∷ factor ∷ [])), reduce_each k n factor terms h)

reduced_each-quantized : (k n : ℕ) (factor : List ℕ) (terms : PowerTerms) → reduced_each k factor terms (reductions_each k n factor terms) ≡ quantized k n factor terms
reduced_each-quantized k n factor [] = refl
reduced_each-quantized k n factor (t ∷ terms) =
    ap (λ (l : PowerTerms). with_power t.0.0 t.1 (reduced_product k n (t.0.1 ∷ factor ∷ [])) ++ l) (reduced_each-quantized k n factor terms)

each_only : (k n : ℕ) (factor : List ℕ) (terms : PowerTerms) (reductions : List (List Reduction)) → 1 ≤ n → ReduceEach k n factor terms reductions
    → reductions ≡ reductions_each k n factor terms
each_only k n factor [] [] h a = refl
each_only k n factor [] (r ∷ reductions) h a = absurd a
each_only k n factor (t ∷ terms) [] h a = absurd a
each_only k n factor (t ∷ terms) (r ∷ reductions) h a =
    ap₂ ◌∷◌ (classical_only k n (t.0.1 ∷ factor ∷ []) r h a.0) (each_only k n factor terms reductions h a.1)

-- ---- one step: multiplying by a factor, and reducing by rim hooks of n cells

pub quantum_step_made : (k n : ℕ) (factor : List ℕ) (terms next : PowerTerms) → 1 ≤ n → AreCollected same_power next
    → ((label : ℕ × List ℕ) → coefficient_by same_power next label ≡ coefficient_by same_power (quantized k n factor terms) label)
    → IsQuantumStep k n factor terms next
quantum_step_made k n factor terms next h c e = record {
  reductions = reductions_each k n factor terms;
  reduce = reduce_each k n factor terms h;
  collected = c;
  sums = λ label. e label ∙ ap (λ (l : PowerTerms). coefficient_by same_power l label) (sym (reduced_each-quantized k n factor terms));
}

pub quantum_step_is : (k n : ℕ) (factor : List ℕ) (terms next : PowerTerms) → 1 ≤ n → IsQuantumStep k n factor terms next
    → (label : ℕ × List ℕ) → coefficient_by same_power next label ≡ coefficient_by same_power (quantized k n factor terms) label
quantum_step_is k n factor terms next h s label = search (rules, each_only, reduced_each-quantized)

later_steps : (k n : ℕ) (front factors : List (List ℕ)) (terms last : PowerTerms) → 1 ≤ n → ArePartitions (front ++ factors)
    → ((label : ℕ × List ℕ) → coefficient_by same_power terms label ≡ coefficient_by same_power (reduced_product k n front) label)
    → StepsLead (IsQuantumStep k n) terms factors last
    → (label : ℕ × List ℕ) → coefficient_by same_power last label ≡ coefficient_by same_power (reduced_product k n (front ++ factors)) label
later_steps k n front [] terms last h p e lead label =
    ap (λ (l : PowerTerms). coefficient_by same_power l label) (sym lead)
    ∙ e label
    ∙ ap (λ (l : List (List ℕ)). coefficient_by same_power (reduced_product k n l) label) (sym (append-nil front))
later_steps k n front (factor ∷ factors) terms last h p e lead label =
    let whole : (front ++ (factor ∷ [])) ++ factors ≡ front ++ (factor ∷ factors) = append_assoc front (factor ∷ []) factors in
    let q : ArePartitions ((front ++ (factor ∷ [])) ++ factors) = subst ArePartitions (sym whole) p in
    later_steps k n (front ++ (factor ∷ [])) factors lead.0 last h q
    (λ l.
    quantum_step_is k n factor terms lead.0 h lead.1 l
    ∙ quantum_step k n front factor terms h (are_front front (factor ∷ factors) p) (p factor (Among-append_right factor front (factor ∷ factors) (inl refl))) e l)
    lead.2 label
    ∙ ap (λ (l : List (List ℕ)). coefficient_by same_power (reduced_product k n l) label) whole

raised_itself : (xs : PowerTerms) → with_power 0 (pos 1) xs ≡ xs
raised_itself [] = refl
raised_itself (x ∷ xs) = search (rules, one-product, (raised_itself xs))

first_step : (k n : ℕ) (first second : List ℕ) → quantized k n second (((0, first), pos 1) ∷ []) ≡ reduced_product k n (first ∷ second ∷ [])
first_step k n first second =
    append-nil (with_power 0 (pos 1) (reduced_product k n (first ∷ second ∷ []))) ∙ raised_itself (reduced_product k n (first ∷ second ∷ []))

pub steps_whole : (k n : ℕ) (factors : List (List ℕ)) (terms : PowerTerms) → 1 ≤ n → 2 ≤ length factors → ArePartitions factors → IsReducedInSteps k n factors terms
    → (label : ℕ × List ℕ) → coefficient_by same_power terms label ≡ coefficient_by same_power (reduced_product k n factors) label
steps_whole k n [] terms h l p s = absurd (omega arith)
steps_whole k n (first ∷ []) terms h l p s = absurd (omega arith)
steps_whole k n (first ∷ second ∷ factors) terms h l p s =
    later_steps k n (first ∷ second ∷ []) factors s.0 terms h p
    (λ label.
    quantum_step_is k n second (((0, first), pos 1) ∷ []) s.0 h s.1 label
    ∙ ap (λ (xs : PowerTerms). coefficient_by same_power xs label) (first_step k n first second))
    s.2

pub quantum_steps_meet : (k n : ℕ) (factors : List (List ℕ)) (terms : Terms (ℕ × List ℕ)) → 1 ≤ n → 2 ≤ length factors → ArePartitions factors
    → IsReducedInSteps k n factors (numerators terms) → IsRimHookReduction k n (classical_product k factors) terms
quantum_steps_meet k n factors terms h l p s = record {
  reductions = reductions_of k n (classical_product k factors);
  reduce = are_reductions k n (classical_product k factors) h (classical_labels k factors);
  sums = steps_whole k n factors (numerators terms) h l p s;
}

-- if a list of terms with integer coefficients results from multiplying and reducing, factor by factor (`IsReducedInSteps`), it is a reduction of the
-- classical product of all factors by rim hooks
pub quantum_steps_answer : (k width : ℕ) (factors : List (List ℕ)) (terms : PowerTerms)
    → 1 ≤ k + width → 2 ≤ length factors → ArePartitions factors
    → IsReducedInSteps k (k + width) factors terms
    → IsRimHookReduction k (k + width) (classical_product k factors) (as_fractions terms)
quantum_steps_answer k width factors terms h l p s = search (rules, quantum_steps_meet, numerators-as_fractions)

pub quantum_step_some : (k n : ℕ) → 1 ≤ n → (factor : List ℕ) (terms : PowerTerms) → (next : PowerTerms) × IsQuantumStep k n factor terms next
quantum_step_some k n h factor terms =
    let next = gathered same_power power_true power_self (quantized k n factor terms) in (
      next,
      quantum_step_made k n factor terms next h (collected-gathered same_power power_true power_self (quantized k n factor terms))
          (coefficient-gathered same_power power_true power_self (quantized k n factor terms)),
    )

pub quantum_steps_collect : (k n : ℕ) (factors : List (List ℕ)) (terms : PowerTerms) → 2 ≤ length factors → IsReducedInSteps k n factors terms → AreCollected same_power terms
quantum_steps_collect k n [] terms l s = absurd (omega arith)
quantum_steps_collect k n (first ∷ []) terms l s = absurd (omega arith)
quantum_steps_collect k n (first ∷ second ∷ factors) terms l s =
    last_is (IsQuantumStep k n) (AreCollected same_power) (λ factor given next step. step.collected) factors second (((0, first), pos 1) ∷ []) terms s

pub quantum_in_steps : (k n : ℕ) (factors : List (List ℕ)) (terms : PowerTerms) → 1 ≤ n → 2 ≤ length factors → ArePartitions factors → AreCollected same_power terms
    → ((label : ℕ × List ℕ) → coefficient_by same_power terms label ≡ coefficient_by same_power (reduced_product k n factors) label) → IsReducedInSteps k n factors terms
quantum_in_steps k n [] terms h l p c e = absurd (omega arith)
quantum_in_steps k n (first ∷ []) terms h l p c e = absurd (omega arith)
quantum_in_steps k n (first ∷ second ∷ factors) terms h l p c e =
    let start : PowerTerms = ((0, first), pos 1) ∷ [] in
    let lead = some_lead (IsQuantumStep k n) (quantum_step_some k n h) (second ∷ factors) start in
    let whole = steps_whole k n (first ∷ second ∷ factors) lead.0 h l p lead.1 in
    last_changed (IsQuantumStep k n) lead.0 terms
    (λ factor given step. record {
      reductions = step.reductions;
      reduce = step.reduce;
      collected = c;
      sums = λ label. e label ∙ sym (whole label) ∙ step.sums label;
    })
    factors second start lead.1

pub rim_hooks_in_steps : (k n : ℕ) (factors : List (List ℕ)) (terms : Terms (ℕ × List ℕ)) → 1 ≤ n → 2 ≤ length factors → ArePartitions factors
    → AreCollected same_power (numerators terms) → IsRimHookReduction k n (classical_product k factors) terms → IsReducedInSteps k n factors (numerators terms)
rim_hooks_in_steps k n factors terms h l p c r = search (rules, quantum_in_steps, classical_only)
