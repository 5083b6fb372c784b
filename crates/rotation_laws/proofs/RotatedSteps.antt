-- Quantum products that are reduced after each factor, of rotated factors.
--     turned_steps      the steps for the unrotated factors lead to a list; with its labels rotated, it is what the steps for the rotated ones lead to
use Rattle.std.proofs.Common.{◌≡◌, ◌⊎◌, inl, inr, ℕ, ◌+◌, ◌≤◌, Bool, true, false, cond, List, [], ◌∷◌, length, refl, sym, ◌∙◌, ap, ap₂, subst, ℤ, pos, ◌+ℤ◌}
use Rattle.std.proofs.lemmas.Bool.{both_ways}
use Rattle.std.proofs.Math.IntN.{+ℤ_idl, +ℤ_idr}
use Rattle.sym_model.specs.Sum.{Among}
use Rattle.sym_model.specs.WholeTerms.{coefficient_by, same_power, HaveLabels}
use Rattle.sym_model.specs.ReductionSteps.{AreCollected, IsReducedInSteps, with_power}
use Rattle.sym_model.proofs.Sums.{total_none}
use Rattle.sym_model.proofs.Ring.{one-product}
use Rattle.product_laws.specs.FactorSteps.{PowerTerms, reduced_product}
use Rattle.product_laws.proofs.QuantumSteps.{power_true, power_self, steps_whole, quantum_in_steps, quantum_steps_collect}
use Rattle.rotation_laws.specs.Rotation.{IsInside, all_turned, AreTurned}
use Rattle.rotation_laws.proofs.Rotations.{Alike, at_more, turned_bases, turned_factors, turned_answer, product_inside}

-- ---- the labels of a collected list are labels of each list with the same coefficients

absent : (label : ℕ × List ℕ) (xs : PowerTerms) → ((u : (ℕ × List ℕ) × ℤ) → Among u xs → same_power label u.0 ≡ false) → coefficient_by same_power xs label ≡ pos 0
absent label xs p = total_none (λ (u : (ℕ × List ℕ) × ℤ). cond (same_power u.0 label) u.1 (pos 0)) xs (λ u m. by u (same_power u.0 label) refl (p u m))
  where
    by : (u : (ℕ × List ℕ) × ℤ) (v : Bool) → same_power u.0 label ≡ v → same_power label u.0 ≡ false → cond v u.1 (pos 0) ≡ pos 0
    by u false e f = refl
    by u true e f = absurd (both_ways (same_power label u.0) f (ap (λ l. same_power label l) (power_true u.0 label e) ∙ power_self label))

collected_at : (xs : PowerTerms) → AreCollected same_power xs → (t : (ℕ × List ℕ) × ℤ) → Among t xs → (coefficient_by same_power xs t.0 ≡ t.1) × (t.1 ≡ pos 0 → ⊥)
collected_at [] c t m = absurd m
collected_at (x ∷ xs) c t (inl e) =
    subst (λ (u : (ℕ × List ℕ) × ℤ). (coefficient_by same_power (x ∷ xs) u.0 ≡ u.1) × (u.1 ≡ pos 0 → ⊥)) (sym e)
    (ap₂ (λ v z. cond v x.1 (pos 0) +ℤ z) (power_self x.0) (absent x.0 xs c.1) ∙ +ℤ_idr x.1, c.0)
collected_at (x ∷ xs) c t (inr m) =
    let r = collected_at xs c.2 t m in
    (ap (λ v. cond v x.1 (pos 0) +ℤ coefficient_by same_power xs t.0) (c.1 t m) ∙ +ℤ_idl (coefficient_by same_power xs t.0) ∙ r.0, r.1)

-- the list ys has a term with the label, or its coefficient there is 0
has_label : (label : ℕ × List ℕ) (ys : PowerTerms) → ((u : (ℕ × List ℕ) × ℤ) × Among u ys × (u.0 ≡ label)) ⊎ (coefficient_by same_power ys label ≡ pos 0)
has_label label [] = inr refl
has_label label (y ∷ ys) = by (same_power y.0 label) refl (has_label label ys)
  where
    by : (v : Bool) → same_power y.0 label ≡ v → ((u : (ℕ × List ℕ) × ℤ) × Among u ys × (u.0 ≡ label)) ⊎ (coefficient_by same_power ys label ≡ pos 0)
        → ((u : (ℕ × List ℕ) × ℤ) × Among u (y ∷ ys) × (u.0 ≡ label)) ⊎ (coefficient_by same_power (y ∷ ys) label ≡ pos 0)
    by true e rest = inl (y, inl refl, power_true y.0 label e)
    by false e (inl u) = inl (u.0, inr u.1, u.2)
    by false e (inr z) = inr (ap₂ (λ v w. cond v y.1 (pos 0) +ℤ w) e z ∙ +ℤ_idl (pos 0))

labels_shared : (P : ℕ × List ℕ → Type 0) (xs ys : PowerTerms) → AreCollected same_power xs → Alike xs ys → HaveLabels P ys → HaveLabels P xs
labels_shared P xs ys c e p t m = elim (has_label t.0 ys) [
  | inl u ↦ subst P u.2 (p u.0 u.1)
  | inr z ↦ let r = collected_at xs c t m in absurd (r.1 (sym r.0 ∙ e t.0 ∙ z))
]

lowered_alike : (d : ℕ) (xs ys : PowerTerms) → Alike (with_power d (pos 1) xs) (with_power d (pos 1) ys) → Alike xs ys
lowered_alike d xs ys e (p, label) =
    sym (one-product (coefficient_by same_power xs (p, label)))
    ∙ sym (at_more d p (pos 1) xs label)
    ∙ e (d + p, label)
    ∙ at_more d p (pos 1) ys label
    ∙ one-product (coefficient_by same_power ys (p, label))

-- the clause `steps` of the law `quantum_rotation_law`
pub turned_steps : (k n : ℕ) (factors bases : List (List ℕ)) (r power : ℕ) (terms answer : PowerTerms) → 1 ≤ n → 2 ≤ length factors → 2 ≤ length bases
    → AreTurned k n factors bases r power → IsReducedInSteps k n bases terms → AreCollected same_power answer
    → Alike (with_power power (pos 1) answer) (all_turned k n r terms) → IsReducedInSteps k n factors answer
turned_steps k n factors bases r power terms answer h l m t s c e =
    let own = turned_bases k n factors bases r power t in
    let whole = steps_whole k n bases terms h m own s in
    let inside = labels_shared (λ label. IsInside k n label.1) terms (reduced_product k n bases) (quantum_steps_collect k n bases terms m s) whole (product_inside k n bases h) in
    quantum_in_steps k n factors answer h l (turned_factors k n factors bases r power h t) c
    (lowered_alike power answer (reduced_product k n factors) (λ label. e label ∙ sym (turned_answer k n factors bases r power terms h t inside whole label)))
