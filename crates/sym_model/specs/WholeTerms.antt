-- Lists of terms (label, c) with integers c, and the polynomial that a list gives: the sum of c·polynomial(label) over
-- its terms (label, c).
use Rattle.std.specs.Prelude.{◌≡◌, ℕ, ◌+◌, ◌*◌, ℤ, pos, ◌≤ℤ◌, nat_abs, ◌==◌, Bool, ◌&&◌, cond}
use Rattle.std.specs.Prelude.{List, [], ◌∷◌}
use Rattle.std.specs.Prelude.{map, flat_map}
use Rattle.sym_model.specs.Sum.{total, sum_by, Among}
use Rattle.sym_model.specs.Polynomial.{Poly, same, scale}
use Rattle.sym_model.specs.Expansion.{Terms, Fraction}

-- a list of terms (label, c) with integers c, read as the formal sum of c·label over the terms
abbrev pub WholeTermsOf : Type 0 → Type 0
WholeTermsOf Label = List (Label × ℤ)

-- a list of terms whose labels are partitions and whose coefficients are integers. `coefficient terms label` is the
-- sum of the coefficients of a label. Two lists are `Same` if these sums agree at every label: they may differ in the
-- order of the terms, in terms with the coefficient 0, and in terms of the same label that are collected into one.
abbrev pub WholeTerms : Type 0
WholeTerms = WholeTermsOf (List ℕ)

-- the sum of the coefficients of all terms whose label is the given one; `test` decides whether two labels are equal
abbrev pub coefficient_by : {Label : Type 0} → (Label → Label → Bool) → WholeTermsOf Label → Label
    → ℤ
coefficient_by {Label = Label} test terms label =
    total (λ (t : Label × ℤ). cond (test t.0 label) t.1 (pos 0)) terms

-- whether two pairs of lists of numbers are equal
abbrev pub same_pair : List ℕ × List ℕ → List ℕ × List ℕ → Bool
same_pair first second = same first.0 second.0 && same first.1 second.1

-- whether two labels, each a power of q with a list of numbers, are equal
abbrev pub same_power : ℕ × List ℕ → ℕ × List ℕ → Bool
same_power first second = (first.0 == second.0) && same first.1 second.1

-- the sum of c·polynomial(label) over the terms (label, c)
abbrev pub combined : {Label : Type 0} → (Label → Poly) → WholeTermsOf Label → Poly
combined {Label = Label} polynomial terms =
    flat_map (λ (t : Label × ℤ). scale t.1 (polynomial t.0)) terms

-- the list of terms with its integer coefficients written as fractions with the denominator 1
abbrev pub as_fractions : {Label : Type 0} → WholeTermsOf Label → Terms Label
as_fractions {Label = Label} terms = map (λ (t : Label × ℤ). (t.0, (t.1, 1))) terms

-- each coefficient of the list of terms has the denominator 1
abbrev pub AreWhole : {Label : Type 0} → Terms Label → Type 0
AreWhole [] = Unit {0}
AreWhole (t ∷ terms) = (t.1.1 ≡ 1) × AreWhole terms

-- the list of terms with the numerators of its coefficients as integer coefficients
abbrev pub numerators : {Label : Type 0} → Terms Label → WholeTermsOf Label
numerators {Label = Label} terms = map (λ (t : Label × Fraction). (t.0, t.1.0)) terms

-- the sum of the absolute values of all coefficients of the list of terms
abbrev pub absolute_total : {Label : Type 0} → WholeTermsOf Label → ℕ
absolute_total [] = 0
absolute_total (t ∷ terms) = nat_abs t.1 + absolute_total terms

-- the sum of |c|·weight(label) over the terms (label, c)
abbrev pub weighed : {Label : Type 0} → (Label → ℕ) → WholeTermsOf Label → ℕ
weighed {Label = Label} weight terms = sum_by (λ (t : Label × ℤ). nat_abs t.1 * weight t.0) terms

-- no coefficient of the list of terms is negative
abbrev pub AreCounts : {Label : Type 0} → WholeTermsOf Label → Type 0
AreCounts {Label = Label} terms = (t : Label × ℤ) → Among t terms → pos 0 ≤ℤ t.1

-- each label of the list of terms has the property P
abbrev pub HaveLabels : {Label : Type 0} → (Label → Type 0) → WholeTermsOf Label → Type 0
HaveLabels {Label = Label} P terms = (t : Label × ℤ) → Among t terms → P t.0

-- the list of the labels, one for each term
abbrev pub labels : {Label : Type 0} → WholeTermsOf Label → List Label
labels {Label = Label} terms = map (λ (t : Label × ℤ). t.0) terms
