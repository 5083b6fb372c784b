-- A fraction num/den that a block can have is not changed by reduction to lowest terms.
use Rattle.std.proofs.Common.{◌≡◌, ℕ, ◌*◌, arith, ℤ, pos, true, false, ◌&&◌, Some, None, Option, refl, ◌∙◌, ap, ap₂}
use Rattle.std.specs.Ordering.{int_eq}
use Rattle.std.proofs.lemmas.Bool.{and_parts, cond-false, false_from_ne_true}
use Rattle.std.proofs.lemmas.Int.{ints}
use Rattle.std.proofs.lemmas.Bool.Decides.{Decides-int_eq}
use Rattle.sym_model.specs.Canonical.{is_coefficient, fits_128_bits}
use Rattle.sym_model.proofs.Ring.{product-one}
use Rattle.fraction_laws.specs.Fractions.{whole, InLowestTerms, lowest_terms, fraction_quotient}
use Rattle.fraction_laws.specs.Checked.{fits_fraction, checked_fraction, checked_fraction_of}
use Rattle.fraction_laws.proofs.Fractions.{Stands-same, Stands-itself, Stands-lowest_terms}
use Rattle.fraction_laws.proofs.Whole.{where_fits-true}
use Rattle.sparse_polys.proofs.Coefficients.{lowest-is_reduced}
use Rattle.block_reader.specs.Fitting.{fits}

pub fits-new : (num : ℤ) (den : ℕ) (positive : ℤ) → positive ≡ pos den → fits true (num, den) ≡ true → checked_fraction_of num positive ≡ Some (num, den)
fits-new num den positive e h =
    let p = and_parts (is_coefficient true (num, den)) (fits_128_bits num && fits_128_bits (pos den)) h in
    let lowest : InLowestTerms (num, den) = lowest-is_reduced (num, den) p.0 in
    let one : 1 * den ≡ den = omega arith in
    let other : int_eq (pos den) (pos 0) ≡ false = false_from_ne_true (int_eq (pos den) (pos 0))
    (λ k. let z : pos den ≡ pos 0 = (Decides-int_eq (pos den) (pos 0)).0 k in let some = lowest.positive in omega (arith, ints)) in
    let quotient : fraction_quotient (whole num) (whole (pos den)) ≡ (num, den) =
    ap₂ lowest_terms (product-one num) one
    ∙ Stands-same (lowest_terms num den) (num, den) num num den den (Stands-lowest_terms num den lowest.positive) (Stands-itself (num, den) lowest) refl in
    ap (checked_fraction_of num) e
    ∙ cond-false (int_eq (pos den) (pos 0)) None (checked_fraction (fraction_quotient (whole num) (whole (pos den)))) other
    ∙ ap checked_fraction quotient
    ∙ where_fits-true (fits_fraction (num, den)) (num, den) p.1

-- if the fraction num/den that `checked_fraction_of` computes is not (num, den) itself, a block cannot have (num, den) as a coefficient
pub not_new : (num : ℤ) (den : ℕ) (positive : ℤ) (made : Option (ℤ × ℕ)) → positive ≡ pos den → made ≡ checked_fraction_of num positive
    → (made ≡ Some (num, den) → ⊥) → fits true (num, den) ≡ false
not_new num den positive made e is other = false_from_ne_true (fits true (num, den)) (λ h. other (is ∙ fits-new num den positive e h))
