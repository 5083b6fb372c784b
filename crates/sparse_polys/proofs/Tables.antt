-- Lists of terms with fractions as coefficients, as the case of lists of labels with scalars in which the scalars are fractions. A *combination* is a
-- list in which each label occurs once, with a coefficient that is not 0. A *canonical* list is a combination with its labels in a given order.
--     terms-fractions      if the scalars are fractions, replacing each of them by its value (`terms_of`) does not change the list
--     term-tests           the tests that each term of a combination passes
--     canonical-fractions  the tests of a canonical list
--     table_gained         a list that is built by adding terms to the empty list is a combination
use Rattle.std.proofs.Common.{◌≡◌, Bool, true, ◌&&◌, [], ◌∷◌, ℕ, pos, refl, ap, ap₂}
use Rattle.std.specs.Cmp.{IsEquivalence}
use Rattle.std.specs.List.{IsDistinct}
use Rattle.std.specs.Ordering.{is_lt}
use Rattle.std.proofs.lemmas.Bool.{and_parts}
use Rattle.std.specs.declared.cmp.Ordering.{Ordering}
use Rattle.fraction_laws.specs.Fractions.{whole, InLowestTerms}
use Rattle.fraction_laws.proofs.Fractions.{InLowestTerms-whole}
use Rattle.sym_model.specs.Expansion.{Fraction, Terms}
use Rattle.sym_model.specs.Sum.{Among}
use Rattle.sym_model.specs.Canonical.{is_ordered, is_reduced, each_term}
use Rattle.linear_combinations.specs.Cleared.{GainsCleared}
use Rattle.linear_combinations.specs.Entries
use Rattle.linear_combinations.specs.Gains.{WholeTermsOf}
use Rattle.linear_combinations.proofs.Tables.{lowest-coefficient as lowest-entry}
use Rattle.linear_combinations.proofs.Totals.{term-among}
use Rattle.sparse_polys.specs.Combination.{terms_of, coefficient, are_terms, is_canonical_list}
use Rattle.sparse_polys.specs.Combination.{IsCombination}

pub terms-fractions : {L : Type 0} (terms : Terms L) → terms_of (λ (c : Fraction). c) terms ≡ terms
terms-fractions [] = refl
terms-fractions (t ∷ terms) = ap (λ ts. t ∷ ts) (terms-fractions terms)

-- in a combination, the coefficient of each term is in lowest terms and not 0, and its label is within the limits of its type
pub term-tests : {L : Type 0} {eq : L → L → Bool} {is_label : L → Bool} (terms : Terms L)
    → IsCombination eq is_label terms → (t : L × Fraction) → Among t terms
    → (is_reduced t.1 ≡ true) × (is_label t.0 ≡ true)
term-tests {is_label = is_label} terms is t m =
    and_parts (is_reduced t.1) (is_label t.0)
    (term-among is_label (λ (c : Fraction). c) terms is.proper t m)

module _ {L : Type 0} (is_label : L → Bool) where
  are_terms-fractions : (terms : Terms L)
      → are_terms is_label terms
      ≡ each_term (λ (t : L × Fraction). is_reduced t.1 && is_label t.0) terms
  are_terms-fractions [] = refl
  are_terms-fractions (t ∷ terms) =
      ap (λ b. (is_reduced t.1 && is_label t.0) && b) (are_terms-fractions terms)

  is_ordered-fractions : (order : L → L → Ordering) (terms : Terms L)
      → Entries.is_ordered order terms ≡ is_ordered order terms
  is_ordered-fractions order [] = refl
  is_ordered-fractions order (t ∷ []) = refl
  is_ordered-fractions order (t ∷ u ∷ terms) =
      ap (λ b. is_lt (order t.0 u.0) && b) (is_ordered-fractions order (u ∷ terms))

  -- the test of a canonical list is the test that its labels are in order, and that each coefficient is reduced and each label within its limits
  pub canonical-fractions : (order : L → L → Ordering) (terms : Terms L)
      → is_canonical_list order is_label terms
      ≡ (is_ordered order terms
      && each_term (λ (t : L × Fraction). is_reduced t.1 && is_label t.0) terms)
  canonical-fractions order terms =
      ap₂ (λ a b. a && b) (is_ordered-fractions order terms) (are_terms-fractions terms)

  pub lowest-coefficient : {eq : L → L → Bool} → IsEquivalence eq
      → ((x y : L) → eq x y ≡ true → x ≡ y) → (terms : Terms L)
      → are_terms is_label terms ≡ true → (k : L) → InLowestTerms (coefficient eq terms k)
  lowest-coefficient laws same terms proper k =
      lowest-entry laws same is_label (λ (r : Fraction). r) (whole (pos 0))
      (InLowestTerms-whole (pos 0)) terms proper k

pub table_gained : {L : Type 0} {eq : L → L → Bool} {is_label : L → Bool} (q : ℕ)
    (gained : WholeTermsOf L) (new : Terms L) → GainsCleared eq is_label q [] gained new
    → IsCombination eq is_label new
unfolding IsDistinct
table_gained q gained new a = a.table (record { distinct = tt; proper = refl })
