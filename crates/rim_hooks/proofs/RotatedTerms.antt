-- Quantum products of rotated factors, with the labels rotated, and fusion products read from quantum products.
--     power_collected, shape_collected    a table has each label once, with a coefficient other than 0
--     turned_next        one more rotated label
--     turned_sorted      the sorted list may stand for the table
--     lifted_alike       lists with the same coefficients, with each label read as a partition
--     lifted_steps       the fusion product, from the list of the quantum product
use Rattle.std.proofs.Common.{◌≡◌, ℕ, ◌+◌, ◌≤◌, nat_eq, ◌&&◌, cond, List, [], ◌∷◌, ◌++◌, map, length, refl, sym, ◌∙◌, ap, ap₂, ℤ, pos, ◌+ℤ◌, ◌*ℤ◌}
use Rattle.std.specs.Cmp.Lexicographic.{pointwise}
use Rattle.std.proofs.lemmas.List.{map-append}
use Rattle.std.proofs.Math.IntN.{+ℤ_idl}
use Rattle.fraction_laws.specs.Fractions.{whole}
use Rattle.sym_model.specs.Canonical.{is_label}
use Rattle.sym_model.specs.LabelLimits.{is_power_label}
use Rattle.sym_model.specs.Partition.{ArePartitions}
use Rattle.sym_model.specs.Polynomial.{Term, Poly, Same, same, coefficient, pair}
use Rattle.sym_model.specs.ReductionSteps.{AreCollected, IsReducedInSteps, IsReflectedInSteps, with_power}
use Rattle.sym_model.specs.WholeTerms.{WholeTerms, coefficient_by, same_power}
use Rattle.sym_model.proofs.Exponents.{same_refl, same_true}
use Rattle.sym_model.proofs.Integers.{chosen_as_product}
use Rattle.sym_model.proofs.Polynomials.{pair_determined, same_from_pair}
use Rattle.sym_model.proofs.Ring.{one-product}
use Rattle.sym_model.proofs.Sums.{total_append}
use Rattle.product_laws.specs.FactorSteps.{PowerTerms, reduced_product}
use Rattle.product_laws.proofs.FusionSteps.{fusion_in_steps}
use Rattle.product_laws.proofs.QuantumSteps.{power_true, power_self, steps_whole}
use Rattle.linear_combinations.specs.Entries.{IsCombination}
use Rattle.linear_combinations.specs.Gains.{over, Gains}
use Rattle.linear_combinations.proofs.Labels.{same_partition, same_power as same_power_label}
use Rattle.sparse_polys.proofs.Accumulating.{at_same}
use Rattle.reduction_laws.proofs.QuantumLaws.{power_equal_self}
use Rattle.reduction_laws.proofs.StepLaws.{collected_table, sums_gained}
use Rattle.rotation_laws.specs.Rotation.{turned, all_turned}
use Rattle.rotation_laws.specs.Lifting.{lifted_label, all_lifted}
use Rattle.rotation_laws.proofs.Lifts.{fusion_lifted}
use Rattle.rotation_laws.proofs.Rotations.{Alike}

pub power_collected : (terms : PowerTerms) → IsCombination (λ a b. nat_eq a.0 b.0 && pointwise nat_eq a.1 b.1) is_power_label whole terms → AreCollected same_power terms
power_collected terms is =
    collected_table (λ a b. nat_eq a.0 b.0 && pointwise nat_eq a.1 b.1) same_power same_power_label power_equal_self power_true power_self is_power_label terms is

pub shape_collected : (terms : WholeTerms) → IsCombination (pointwise nat_eq) is_label whole terms → AreCollected same terms
shape_collected terms is = collected_table (pointwise nat_eq) same same_partition at_same same_true same_refl is_label terms is

-- the function that is 1 at the label which q^d makes the given one, and 0 at all others
abbrev at_raised : ℕ → ℕ × List ℕ → ℕ × List ℕ → ℤ
at_raised d label l = cond (same_power (d + l.0, l.1) label) (pos 1) (pos 0)

raised_over : (d : ℕ) (label : ℕ × List ℕ) (xs : PowerTerms) → coefficient_by same_power (with_power d (pos 1) xs) label ≡ over (at_raised d label) xs
raised_over d label [] = refl
raised_over d label (t ∷ xs) =
    ap₂ (λ a b. a +ℤ b)
    (ap (λ z. cond (same_power (d + t.0.0, t.0.1) label) z (pos 0)) (one-product t.1) ∙ chosen_as_product (same_power (d + t.0.0, t.0.1) label) t.1)
    (raised_over d label xs)

pub turned_next : (k n r d : ℕ) (done next : PowerTerms) (p : (ℕ × List ℕ) × ℤ) (sums new : PowerTerms) (l : ℕ × List ℕ) → done ++ p ∷ [] ≡ next
    → (d + l.0, l.1) ≡ turned k n r p.0 → Gains sums ((l, p.1) ∷ []) new → Alike (with_power d (pos 1) sums) (all_turned k n r done)
    → Alike (with_power d (pos 1) new) (all_turned k n r next)
turned_next k n r d done next p sums new l pushed is gains e label =
    raised_over d label new
    ∙ gains.sums (at_raised d label)
    ∙ ap₂ (λ a b. a +ℤ b) (sym (raised_over d label sums) ∙ e label) one
    ∙ sym (total_append (λ (t : (ℕ × List ℕ) × ℤ). cond (same_power t.0 label) t.1 (pos 0)) (all_turned k n r done) (all_turned k n r (p ∷ [])))
    ∙ ap (λ (xs : PowerTerms). coefficient_by same_power xs label)
    (sym (map-append (λ (t : (ℕ × List ℕ) × ℤ). let term : (ℕ × List ℕ) × ℤ = (turned k n r t.0, t.1) in term) done (p ∷ [])) ∙ ap (all_turned k n r) pushed)
  where
    one : over (at_raised d label) ((l, p.1) ∷ []) ≡ coefficient_by same_power (all_turned k n r (p ∷ [])) label
    one =
        ap (λ z. z +ℤ pos 0)
        (sym (chosen_as_product (same_power (d + l.0, l.1) label) p.1) ∙ ap (λ (m : ℕ × List ℕ). cond (same_power m label) p.1 (pos 0)) is)

pub turned_sorted : (d : ℕ) (sums list ys : PowerTerms) → Gains [] sums list → Alike (with_power d (pos 1) sums) ys → Alike (with_power d (pos 1) list) ys
turned_sorted d sums list ys gains e label =
    raised_over d label list ∙ gains.sums (at_raised d label) ∙ none (over (at_raised d label) sums) ∙ sym (raised_over d label sums) ∙ e label
  where
    none : (z : ℤ) → pos 0 +ℤ z ≡ z
    none z = +ℤ_idl z

-- ---- the partitions for the labels of a quantum product

-- a label as a list: its power of q, then its parts
abbrev listed : PowerTerms → Poly
listed xs = map (λ (t : (ℕ × List ℕ) × ℤ). let term : Term = (t.0.0 ∷ t.0.1, t.1) in term) xs

-- a function of partitions as one of such lists
abbrev of_listed : ℕ → ℕ → (List ℕ → ℤ) → List ℕ → ℤ
of_listed k n φ [] = pos 0
of_listed k n φ (p ∷ parts) = φ (lifted_label k n (p, parts))

listed_at : (p : ℕ) (parts : List ℕ) (xs : PowerTerms) → coefficient (listed xs) (p ∷ parts) ≡ coefficient_by same_power xs (p, parts)
listed_at p parts [] = refl
listed_at p parts (t ∷ xs) = ap (λ z. cond (same_power t.0 (p, parts)) t.1 (pos 0) +ℤ z) (listed_at p parts xs)

listed_none : (xs : PowerTerms) → coefficient (listed xs) [] ≡ pos 0
listed_none [] = refl
listed_none (t ∷ xs) = +ℤ_idl (coefficient (listed xs) []) ∙ listed_none xs

lifted_over : (k n : ℕ) (φ : List ℕ → ℤ) (xs : PowerTerms) → pair (all_lifted k n xs) φ ≡ pair (listed xs) (of_listed k n φ)
lifted_over k n φ [] = refl
lifted_over k n φ (t ∷ xs) = ap (λ z. t.1 *ℤ φ (lifted_label k n t.0) +ℤ z) (lifted_over k n φ xs)

pub lifted_alike : (k n : ℕ) (xs ys : PowerTerms) → Alike xs ys → Same (all_lifted k n xs) (all_lifted k n ys)
lifted_alike k n xs ys e =
    same_from_pair (all_lifted k n xs) (all_lifted k n ys)
    (λ φ. lifted_over k n φ xs ∙ pair_determined (listed xs) (listed ys) (of_listed k n φ) by ∙ sym (lifted_over k n φ ys))
  where
    by : Same (listed xs) (listed ys)
    by [] = listed_none xs ∙ sym (listed_none ys)
    by (p ∷ parts) = listed_at p parts xs ∙ e (p, parts) ∙ sym (listed_at p parts ys)

pub lifted_steps : (k n : ℕ) (factors : List (List ℕ)) (terms : PowerTerms) (list : WholeTerms) → 1 ≤ n → k ≤ n → 2 ≤ length factors → ArePartitions factors
    → IsReducedInSteps k n factors terms → AreCollected same list → Same list (all_lifted k n terms) → IsReflectedInSteps k n factors list
lifted_steps k n factors terms list h g l p steps collected e =
    fusion_in_steps k n factors list h l p collected
    (λ label.
    e label
    ∙ lifted_alike k n terms (reduced_product k n factors) (steps_whole k n factors terms h l p steps) label
    ∙ ap (λ (xs : WholeTerms). coefficient xs label) (sym (fusion_lifted k n factors h g)))

pub lifted_append : (k n : ℕ) (xs ys : PowerTerms) → all_lifted k n (xs ++ ys) ≡ all_lifted k n xs ++ all_lifted k n ys
lifted_append k n [] ys = refl
lifted_append k n (t ∷ xs) ys = ap (λ (l : WholeTerms). (lifted_label k n t.0, t.1) ∷ l) (lifted_append k n xs ys)

-- the list that the table holds is that of the lifted terms
pub lifted_sorted : (k n : ℕ) (terms : PowerTerms) (sums list : WholeTerms) → Gains [] (all_lifted k n terms) sums → Gains [] sums list → Same list (all_lifted k n terms)
lifted_sorted k n terms sums list gains sorted = same_from_pair list (all_lifted k n terms) (λ φ. sums_gained sums list sorted φ ∙ sums_gained (all_lifted k n terms) sums gains φ)
