-- The *classical product* of some partitions in k variables is the list of terms that expands the product of their Schur polynomials. Its weight is
-- the sum of the absolute values of its coefficients.
--     classical_long_left, classical_long_right    the list for two factors is empty if one of them has more than k rows
--     weight_within       if a canonical list has the coefficients of the classical product, their absolute values add up to at most the weight
use Rattle.std.proofs.Common.{◌≡◌, ℕ, ◌<◌, ◌≤◌, true, arith, List, [], ◌∷◌, map, refl, ◌∙◌, ap, subst, ℤ, pos, rules}
use Rattle.std.proofs.lemmas.Bool.{and_parts}
use Rattle.sym_model.specs.Sum.{Once}
use Rattle.sym_model.specs.Polynomial.{Poly, Same, nothing, times, join}
use Rattle.sym_model.specs.Partition.{IsPartition, rows}
use Rattle.sym_model.specs.Schur.{schur}
use Rattle.sym_model.specs.Alternant.{schur_coefficient, alternant, staircase}
use Rattle.sym_model.specs.Expansion.{Fraction}
use Rattle.sym_model.specs.Canonical.{is_label}
use Rattle.sym_model.specs.PrintedOrder.{printed_order}
use Rattle.sym_model.specs.WholeTerms.{WholeTerms, absolute_total, as_fractions, labels}
use Rattle.linear_combinations.specs.Entries.{IsCanonicalList}
use Rattle.linear_combinations.specs.Gains.{mass}
use Rattle.sym_model.specs.Products.{schur_product, nonzero, classical_product}
use Rattle.sym_model.specs.ReductionSteps.{classical_weight}
use Rattle.sym_model.proofs.Polynomials.{at_only, coefficient_pair, pair_times, pair_zero, same_from_pair, times_respects, Same_refl, Same_trans}
use Rattle.alternant_laws.proofs.SchurProducts.{schur_few_variables}
use Rattle.sym_model.proofs.Orders.{printed_order-total}
use Rattle.sym_model.proofs.CanonicalLists.{is_ordered-tells, labels-once}
use Rattle.fraction_laws.specs.Fractions.{whole}
use Rattle.sparse_polys.specs.Combination.{is_canonical_list as is_canonical_fractions}
use Rattle.sparse_polys.proofs.ValueLists.{canonical_values}
use Rattle.beta_list_laws.proofs.ReducedSums.{absolute_within}

labels-fractions : (terms : WholeTerms) → map (λ (t : List ℕ × Fraction). t.0) (as_fractions terms) ≡ labels terms
labels-fractions [] = refl
labels-fractions (t ∷ terms) = ap (λ l. t.0 ∷ l) (labels-fractions terms)

once_canonical : (terms : WholeTerms) → IsCanonicalList printed_order is_label whole terms → Once (labels terms)
once_canonical terms c =
    let canonical : is_canonical_fractions printed_order is_label (as_fractions terms) ≡ true = canonical_values whole printed_order is_label terms ∙ c in
    subst (λ (l : List (List ℕ)). Once l) (labels-fractions terms)
    (labels-once printed_order printed_order-total (as_fractions terms) (is_ordered-tells printed_order printed_order-total.trans (as_fractions terms) (and_parts _ _ canonical).0))

-- ---- the coefficients of the classical product

all_zero : (f : List ℕ → ℤ) → ((parts : List ℕ) → f parts ≡ pos 0) → (shapes : List (List ℕ)) → (let pairs : WholeTerms = map (λ (parts : List ℕ). (parts, f parts)) shapes in nonzero pairs) ≡ []
all_zero f z [] = refl
all_zero f z (parts ∷ shapes) = search (rules, (all_zero f z shapes))

none_of_nothing : (k : ℕ) (f : Poly) (parts : List ℕ) → Same f nothing → schur_coefficient k parts f ≡ pos 0
none_of_nothing k f parts s =
    times_respects (alternant (staircase k)) (alternant (staircase k)) f nothing (Same_refl (alternant (staircase k))) s (join parts (staircase k))
    ∙ coefficient_pair (times (alternant (staircase k)) nothing) (join parts (staircase k))
    ∙ pair_times (alternant (staircase k)) nothing (at_only (join parts (staircase k)))
    ∙ pair_zero (alternant (staircase k))

pub classical_nothing : (k : ℕ) (factors : List (List ℕ)) → Same (schur_product factors k) nothing → classical_product k factors ≡ []
classical_nothing k factors s = search (rules, all_zero, none_of_nothing)

pub classical_long_right : (k : ℕ) (left right : List ℕ) → IsPartition right → k < rows right → classical_product k (left ∷ right ∷ []) ≡ []
classical_long_right k left right p h =
    classical_nothing k (left ∷ right ∷ [])
    (Same_trans (times (schur left k) (schur right k)) (times (schur left k) nothing) nothing
    (times_respects (schur left k) (schur left k) (schur right k) nothing (Same_refl (schur left k)) (schur_few_variables k right p h))
    (same_from_pair (times (schur left k) nothing) nothing (λ φ. pair_times (schur left k) nothing φ ∙ pair_zero (schur left k))))

pub classical_long_left : (k : ℕ) (left right : List ℕ) → IsPartition left → k < rows left → classical_product k (left ∷ right ∷ []) ≡ []
classical_long_left k left right p h =
    classical_nothing k (left ∷ right ∷ [])
    (times_respects (schur left k) nothing (schur right k) (schur right k) (schur_few_variables k left p h) (Same_refl (schur right k)))

-- `mass` and `absolute_total` of a list of terms are equal: both are the sum of the absolute values of the coefficients
pub mass_total : (terms : WholeTerms) → mass terms ≡ absolute_total terms
mass_total [] = refl
mass_total (t ∷ terms) = let e = mass_total terms in omega arith

pub weight_within : (k : ℕ) (factors : List (List ℕ)) (terms : WholeTerms) → IsCanonicalList printed_order is_label whole terms → Same terms (classical_product k factors)
    → mass terms ≤ classical_weight k factors
weight_within k factors terms c s = let a = absolute_within terms (classical_product k factors) (once_canonical terms c) s in let m = mass_total terms in omega arith
