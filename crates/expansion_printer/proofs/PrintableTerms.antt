-- If a list of terms is canonical (the labels are valid and strictly increasing, the coefficients are in lowest terms and not 0), and its
-- coefficients are numbers of 128 bits, it can be printed and read back.
use Rattle.std.proofs.Common.{◌≡◌, ◌^◌, ℤ, List, Bool, true, false, ◌&&◌, [], ◌∷◌, refl, sym, ap}
use Rattle.std.proofs.Common.{◌∙◌, pos, nat_lt, FitsSigned}
use Rattle.std.specs.Int.{w128}
use Rattle.std.specs.List.{All}
use Rattle.std.specs.declared.cmp.Ordering.{Ordering}
use Rattle.std.proofs.lemmas.Bool.{and_from}
use Rattle.std.proofs.lemmas.List.Elements.{All-head, All-tail}
use Rattle.sym_model.specs.Expansion.{Fraction, Terms}
use Rattle.sym_model.specs.Canonical.{is_printable, is_reduced, is_coefficient, is_ordered}
use Rattle.sym_model.specs.Canonical.{each_term, fits_128_bits}
use Rattle.sym_model.specs.WholeTerms.{as_fractions}
use Rattle.fraction_laws.specs.Fractions.{whole}
use Rattle.fraction_laws.specs.Checked.{IsFraction, fits_fraction}
use Rattle.fraction_laws.proofs.FractionAnswers.{held-fits_fraction}
use Rattle.fraction_laws.proofs.Whole.{test_from_fits}
use Rattle.linear_combinations.specs.Entries.{is_canonical_list}
use Rattle.sparse_polys.proofs.Tables.{canonical-fractions}
use Rattle.sparse_polys.proofs.ValueLists.{canonical_values}

module _ {L : Type 0} where
  -- whether each term has a coefficient that a canonical list can have (in lowest terms, not 0, a fraction only if `has_fractions`) and a valid label
  abbrev are_proper : Bool → (L → Bool) → Terms L → Bool
  are_proper has_fractions is_label terms =
      each_term (λ (t : L × Fraction). is_coefficient has_fractions t.1 && is_label t.0) terms

  proper-whole : (is_label : L → Bool) (terms : List (L × ℤ))
      → are_proper false is_label (as_fractions terms)
      ≡ each_term (λ (t : L × Fraction). is_reduced t.1 && is_label t.0) (as_fractions terms)
  proper-whole is_label [] = refl
  proper-whole is_label (t ∷ terms) =
      ap (λ b. (is_reduced (whole t.1) && is_label t.0) && b) (proper-whole is_label terms)

  printable-whole : (terms : List (L × ℤ)) → All (λ (t : L × ℤ). FitsSigned w128 t.1) terms
      → is_printable (as_fractions terms) ≡ true
  printable-whole [] all = refl
  printable-whole (t ∷ terms) all =
      and_from (fits_128_bits t.1 && fits_128_bits (pos 1)) (is_printable (as_fractions terms))
      (and_from (fits_128_bits t.1) (nat_lt 1 (2 ^ 127))
      (test_from_fits t.1 (All-head (λ (u : L × ℤ). FitsSigned w128 u.1) t terms all)) refl)
      (printable-whole terms (All-tail (λ (u : L × ℤ). FitsSigned w128 u.1) t terms all))

  -- a canonical list with integers as coefficients is in order and has only valid terms (`are_proper`)
  pub whole-canonical : (order : L → L → Ordering) (is_label : L → Bool) (terms : List (L × ℤ))
      → is_canonical_list order is_label whole terms ≡ true
      → (is_ordered order (as_fractions terms) && are_proper false is_label (as_fractions terms)) ≡ true
  whole-canonical order is_label terms h =
      let listed = canonical-fractions is_label order (as_fractions terms) in
      ap (λ b. is_ordered order (as_fractions terms) && b) (proper-whole is_label terms)
      ∙ sym listed ∙ canonical_values whole order is_label terms ∙ h

  -- if its coefficients have 128 bits, it can also be printed
  pub whole-printable : (order : L → L → Ordering) (is_label : L → Bool) (terms : List (L × ℤ))
      → All (λ (t : L × ℤ). FitsSigned w128 t.1) terms
      → is_canonical_list order is_label whole terms ≡ true
      → ((is_ordered order (as_fractions terms) && are_proper false is_label (as_fractions terms))
      ≡ true) × (is_printable (as_fractions terms) ≡ true)
  whole-printable order is_label terms all h = (whole-canonical order is_label terms h, printable-whole terms all)

  printable-fractions : (terms : Terms L) → All (λ (t : L × Fraction). IsFraction t.1) terms
      → is_printable terms ≡ true
  printable-fractions [] all = refl
  printable-fractions (t ∷ terms) all =
      and_from (fits_fraction t.1) (is_printable terms)
      (held-fits_fraction t.1 (All-head (λ (u : L × Fraction). IsFraction u.1) t terms all))
      (printable-fractions terms (All-tail (λ (u : L × Fraction). IsFraction u.1) t terms all))

  -- a canonical list with fractions of 128 bits as coefficients is in order, has only valid terms (`are_proper`), and can be printed
  pub fractions-printable : (order : L → L → Ordering) (is_label : L → Bool) (terms : Terms L)
      → All (λ (t : L × Fraction). IsFraction t.1) terms
      → is_canonical_list order is_label (λ (r : Fraction). r) terms ≡ true
      → ((is_ordered order terms && are_proper true is_label terms) ≡ true)
      × (is_printable terms ≡ true)
  fractions-printable order is_label terms all h =
      (sym (canonical-fractions is_label order terms) ∙ h, printable-fractions terms all)
