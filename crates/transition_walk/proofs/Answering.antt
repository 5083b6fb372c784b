-- A list of terms (x, c), each a label x with a coefficient c, represents a polynomial f (`Represents`) if f is the sum of c times the polynomial of
-- x over the terms. The pairing of a polynomial with a function φ of exponents is the sum of b·φ(α) over its terms b·x^α.
use Rattle.std.proofs.Common.{◌≡◌, Bool, true, pos, List, ℕ, ℤ, ◌*ℤ◌, sym, ap, ◌∙◌}
use Rattle.std.specs.Cmp.{IsEquivalence}
use Rattle.fraction_laws.specs.Fractions.{whole}
use Rattle.sym_model.specs.Polynomial.{Poly, Same, pair, scale}
use Rattle.sym_model.specs.Expansion.{Terms, Represents, denominators, value_by}
use Rattle.sym_model.specs.WholeTerms.{WholeTermsOf, as_fractions}
use Rattle.sym_model.proofs.Polynomials.{Same_trans, scale_respects, pair_scale, pair_determined}
use Rattle.sym_model.proofs.Ring.{one-product}
use Rattle.sym_model.proofs.Sums.{total_ext}
use Rattle.sym_model.proofs.WholeTerms.{pair_of_combined, denominators-as_fractions, value_by-as_fractions}
use Rattle.linear_combinations.specs.Entries.{IsCombination, HasSameCoefficients}
use Rattle.linear_combinations.specs.Gains.{over}
use Rattle.linear_combinations.proofs.Masses.{over_same, represents_sums}

pub represents_as : {L : Type 0} (polynomial : L → Poly) (terms : Terms L) (f g : Poly) → Same f g → Represents polynomial terms f 1 → Represents polynomial terms g 1
represents_as polynomial terms f g e h = record {
  positive = h.positive;
  equal = Same_trans (scale (pos 1) (value_by polynomial terms)) (scale (pos (denominators terms)) f) (scale (pos (denominators terms)) g) h.equal (scale_respects (pos (denominators terms)) f g e);
}

pub sums_as : {L : Type 0} (f g : L → ℤ) → ((x : L) → f x ≡ g x) → (list : WholeTermsOf L) → over f list ≡ over g list
sums_as {L} f g e list = total_ext (λ (t : L × ℤ). t.1 *ℤ f t.0) (λ (t : L × ℤ). t.1 *ℤ g t.0) (λ t. ap (λ z. t.1 *ℤ z) (e t.0)) list

-- if a list of terms (x, c) represents f, the sum of c times the pairing of the polynomial of x with φ is the pairing of f with φ
pub sums_represented : {L : Type 0} (polynomial : L → Poly) (terms : WholeTermsOf L) (f : Poly) → Represents polynomial (as_fractions terms) f 1
    → (φ : List ℕ → ℤ) → over (λ x. pair (polynomial x) φ) terms ≡ pair f φ
sums_represented polynomial terms f h φ =
    sym (pair_of_combined polynomial terms φ)
    ∙ sym (ap (λ g. pair g φ) (value_by-as_fractions polynomial terms))
    ∙ sym (pair_scale (pos 1) (value_by polynomial (as_fractions terms)) φ ∙ one-product (pair (value_by polynomial (as_fractions terms)) φ))
    ∙ pair_determined (scale (pos 1) (value_by polynomial (as_fractions terms))) (scale (pos (denominators (as_fractions terms))) f) φ h.equal
    ∙ pair_scale (pos (denominators (as_fractions terms))) f φ
    ∙ ap (λ d. pos d *ℤ pair f φ) (denominators-as_fractions terms)
    ∙ one-product (pair f φ)

-- let two lists of terms have the same coefficients, and let each of them have every label at most once. If the first list represents a polynomial,
-- then so does the second
pub represents_same : {L : Type 0} {eq : L → L → Bool} (laws : IsEquivalence eq) (same : (x y : L) → eq x y ≡ true → x ≡ y) {is_label : L → Bool}
    (first second : WholeTermsOf L) → IsCombination eq is_label whole first → IsCombination eq is_label whole second → HasSameCoefficients eq (pos 0) first second
    → (polynomial : L → Poly) (f : Poly) → Represents polynomial (as_fractions first) f 1 → Represents polynomial (as_fractions second) f 1
represents_same laws same first second is also equal polynomial f h =
    represents_sums polynomial second f
    (λ φ. sym (over_same laws same first second is also equal (λ x. pair (polynomial x) φ)) ∙ sums_represented polynomial first f h φ)
