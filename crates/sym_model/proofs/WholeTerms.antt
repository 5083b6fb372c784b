-- Lists of terms with integer coefficients (specs/WholeTerms). For polynomials p(label), the sum of c·p(label) over the
-- terms (label, c) of a list depends only on the sum of the coefficients of each label.
use Rattle.std.proofs.Common.{◌≡◌, ℕ, List, [], ◌∷◌, ◌++◌, ◌+◌, map, sym, ◌∙◌, ap, ap₂, subst, refl, inl, inr, arith, ℤ, pos, ◌*ℤ◌}
use Rattle.sym_model.specs.Sum.{total, Among}
use Rattle.sym_model.specs.Polynomial.{Poly, coefficient, Same, pair, plus, scale}
use Rattle.sym_model.specs.Expansion.{Terms, Basis, basis_polynomial, denominators, cleared, value_by, value, Represents}
use Rattle.sym_model.specs.WholeTerms.{WholeTermsOf, WholeTerms, absolute_total, combined, as_fractions, AreWhole, numerators, HaveLabels}
use Rattle.sym_model.proofs.Ring.{product-one}
use Rattle.sym_model.proofs.Sums.{total_ext}
use Rattle.sym_model.proofs.Polynomials.{at_only, coefficient_pair, pair_each, pair_scale, pair_determined, scale_respects}

-- let p be `polynomial`, and f the sum of c·p(label) over the terms (label, c) of a list. The sum of b·φ(α) over the
-- terms b·x^α of f (`pair f φ`) is the sum of c times `pair p(label) φ` over the terms (label, c) of the list.
pub pair_of_combined : {Label : Type 0} (polynomial : Label → Poly) (terms : WholeTermsOf Label) (φ : List ℕ → ℤ) → pair (combined polynomial terms) φ ≡ total (λ (t : Label × ℤ). t.1 *ℤ pair (polynomial t.0) φ) terms
pair_of_combined {Label = Label} polynomial terms φ =
    pair_each (λ (t : Label × ℤ). scale t.1 (polynomial t.0)) terms φ
    ∙ total_ext (λ (t : Label × ℤ). pair (scale t.1 (polynomial t.0)) φ) (λ (t : Label × ℤ). t.1 *ℤ pair (polynomial t.0) φ) (λ t. pair_scale t.1 (polynomial t.0) φ) terms

pub pair-combined : (polynomial : List ℕ → Poly) (terms : WholeTerms) (φ : List ℕ → ℤ) → pair (combined polynomial terms) φ ≡ pair terms (λ label. pair (polynomial label) φ)
pair-combined polynomial terms φ = pair_of_combined polynomial terms φ

pub coefficient_of_combined : {Label : Type 0} (polynomial : Label → Poly) (terms : WholeTermsOf Label) (α : List ℕ) → coefficient (combined polynomial terms) α ≡ total (λ (t : Label × ℤ). t.1 *ℤ coefficient (polynomial t.0) α) terms
coefficient_of_combined {Label = Label} polynomial terms α =
    coefficient_pair (combined polynomial terms) α
    ∙ pair_of_combined polynomial terms (at_only α)
    ∙ total_ext (λ (t : Label × ℤ). t.1 *ℤ pair (polynomial t.0) (at_only α)) (λ (t : Label × ℤ). t.1 *ℤ coefficient (polynomial t.0) α) (λ t. ap (λ n. t.1 *ℤ n) (sym (coefficient_pair (polynomial t.0) α))) terms

pub coefficient-combined : (polynomial : List ℕ → Poly) (terms : WholeTerms) (α : List ℕ) → coefficient (combined polynomial terms) α ≡ pair terms (λ label. coefficient (polynomial label) α)
coefficient-combined polynomial terms α = coefficient_of_combined polynomial terms α

module _ {Label : Type 0} (P : Label → Type 0) where
  pub labels_append : (xs ys : WholeTermsOf Label) → HaveLabels P xs → HaveLabels P ys → HaveLabels P (xs ++ ys)
  labels_append [] ys h k t m = k t m
  labels_append (x ∷ xs) ys h k t (inl e) = h t (inl e)
  labels_append (x ∷ xs) ys h k t (inr m) = labels_append xs ys (λ u n. h u (inr n)) k t m

  pub labels_map : {A : Type 0} (f : A → Label × ℤ) (xs : List A) → ((x : A) → Among x xs → P (f x).0) → HaveLabels P (map f xs)
  labels_map f [] h t m = absurd m
  labels_map f (x ∷ xs) h t (inl e) = subst P (sym (ap (λ (u : Label × ℤ). u.0) e)) (h x (inl refl))
  labels_map f (x ∷ xs) h t (inr m) = labels_map f xs (λ y n. h y (inr n)) t m

  pub labels_scaled : (c : ℤ) (xs : WholeTermsOf Label) → HaveLabels P xs → HaveLabels P (scale c xs)
  labels_scaled c xs h = labels_map (λ (t : Label × ℤ). (t.0, c *ℤ t.1)) xs h

-- let p be `polynomial`: if two lists of terms have the same sum of coefficients at each label, then the sums of
-- c·p(label) over their terms (label, c) are the same polynomial
pub combined_respects : (polynomial : List ℕ → Poly) (terms others : WholeTerms) → Same terms others → Same (combined polynomial terms) (combined polynomial others)
combined_respects polynomial terms others e α =
    coefficient-combined polynomial terms α ∙ pair_determined terms others (λ label. coefficient (polynomial label) α) e ∙ sym (coefficient-combined polynomial others α)

-- ---- the polynomial of a list whose coefficients have the denominator 1

pub denominators-as_fractions : {Label : Type 0} (terms : WholeTermsOf Label) → denominators (as_fractions terms) ≡ 1
denominators-as_fractions [] = refl
denominators-as_fractions (t ∷ terms) = omega (arith, denominators-as_fractions terms)

cleared-as_fractions : {Label : Type 0} (polynomial : Label → Poly) (terms : WholeTermsOf Label) → cleared polynomial 1 (as_fractions terms) ≡ combined polynomial terms
cleared-as_fractions polynomial [] = refl
cleared-as_fractions polynomial (t ∷ terms) = ap₂ plus (ap (λ c. scale c (polynomial t.0)) (product-one t.1)) (cleared-as_fractions polynomial terms)

-- let p be `polynomial`: the polynomial that a list of terms (label, c/1) denotes (`value_by`) is the sum of c·p(label)
-- over these terms
pub value_by-as_fractions : {Label : Type 0} (polynomial : Label → Poly) (terms : WholeTermsOf Label) → value_by polynomial (as_fractions terms) ≡ combined polynomial terms
value_by-as_fractions polynomial terms =
    ap (λ q. cleared polynomial q (as_fractions terms)) (denominators-as_fractions terms) ∙ cleared-as_fractions polynomial terms

pub as_fractions-numerators : {Label : Type 0} (terms : Terms Label) → AreWhole terms → as_fractions (numerators terms) ≡ terms
as_fractions-numerators [] w = refl
as_fractions-numerators (t ∷ terms) w = ap₂ ◌∷◌ (ap (λ (d : ℕ). (t.0, (t.1.0, d))) (sym w.0)) (as_fractions-numerators terms w.1)

pub denominators_of_whole : {Label : Type 0} (terms : Terms Label) → AreWhole terms → denominators terms ≡ 1
denominators_of_whole terms w = ap denominators (sym (as_fractions-numerators terms w)) ∙ denominators-as_fractions (numerators terms)

pub value_by-whole : {Label : Type 0} (polynomial : Label → Poly) (terms : Terms Label) → AreWhole terms → value_by polynomial terms ≡ combined polynomial (numerators terms)
value_by-whole polynomial terms w = ap (λ l. value_by polynomial l) (sym (as_fractions-numerators terms w)) ∙ value_by-as_fractions polynomial (numerators terms)

pub value_of_whole : (basis : Basis) (terms : Terms (List ℕ)) (n : ℕ) → AreWhole terms → value basis terms n ≡ combined (λ label. basis_polynomial basis label n) (numerators terms)
value_of_whole basis terms n w = value_by-whole (λ label. basis_polynomial basis label n) terms w

-- let p be `polynomial`, and let all coefficients of a list of terms have the denominator 1: if the sum of c·p(label)
-- over the terms (label, c/1) is the polynomial f, then the list represents f/1 (`Represents`)
pub represents-whole : {Label : Type 0} (polynomial : Label → Poly) (terms : Terms Label) (f : Poly) → AreWhole terms → Same (combined polynomial (numerators terms)) f → Represents polynomial terms f 1
represents-whole polynomial terms f w e = record {
  positive = omega (arith, denominators_of_whole terms w);
  equal = subst
      (λ d. Same (scale (pos 1) (value_by polynomial terms)) (scale (pos d) f))
      (sym (denominators_of_whole terms w))
      (scale_respects (pos 1) (value_by polynomial terms) f (subst (λ g. Same g f) (sym (value_by-whole polynomial terms w)) e));
}

pub absolute-append : (xs ys : WholeTerms) → absolute_total (xs ++ ys) ≡ absolute_total xs + absolute_total ys
absolute-append [] ys = omega arith
absolute-append (t ∷ xs) ys = omega (arith, absolute-append xs ys)
