-- Canonical lists of terms: the labels are in the printed order, strictly increasing, and each label is within the
-- limits of its kind; the coefficients are not 0 and are in lowest terms.
use Rattle.std.specs.Prelude.{ℕ, zero, suc, ◌+◌, ◌^◌, ◌%◌, ◌==◌, nat_lt, Bool, true, ◌&&◌, ◌||◌, ℤ}
use Rattle.std.specs.Prelude.{pos, negsuc, nat_abs, [], ◌∷◌, IsTrue}
use Rattle.std.specs.Ordering.{is_lt}
use Rattle.std.specs.declared.cmp.Ordering.{Ordering}
use Rattle.sym_model.specs.Expansion.{Fraction, Terms}
use Rattle.sym_model.specs.Kind.{LabelRules}
pub use Rattle.sym_model.specs.LabelLimits.{is_partition, is_label}

-- the greatest common divisor of a and b by Euclid's rule, if the given number of steps is enough
abbrev pub gcd_within : ℕ → ℕ → ℕ → ℕ
gcd_within zero a b = a
gcd_within (suc steps) a zero = a
gcd_within (suc steps) a (suc b) = gcd_within steps (suc b) (a % suc b)

-- the greatest common divisor of a and b; b decreases at each step of Euclid's rule, so b + 1 steps are enough
abbrev pub gcd : ℕ → ℕ → ℕ
gcd a b = gcd_within (b + 1) a b

-- whether a fraction is in lowest terms and not 0, with a positive denominator
abbrev pub is_reduced : Fraction → Bool
is_reduced c = nat_lt 0 c.1 && nat_lt 0 (nat_abs c.0) && (gcd (nat_abs c.0) c.1 == 1)

-- whether each label of the list of terms is strictly less, in the given order, than the label of the next term
abbrev pub is_ordered : {Label : Type 0} → (Label → Label → Ordering) → Terms Label → Bool
is_ordered order [] = true
is_ordered order (t ∷ []) = true
is_ordered order (t ∷ u ∷ terms) = is_lt (order t.0 u.0) && is_ordered order (u ∷ terms)

-- whether each term of the list passes the test
abbrev pub each_term : {Label : Type 0} → (Label × Fraction → Bool) → Terms Label → Bool
each_term test [] = true
each_term test (t ∷ terms) = test t && each_term test terms

-- whether a fraction may be a coefficient of a canonical list (labels in order): it is not 0, is in lowest terms, and
-- has the denominator 1 unless `has_fractions` is true
abbrev pub is_coefficient : Bool → Fraction → Bool
is_coefficient has_fractions c = (has_fractions || (c.1 == 1)) && is_reduced c

-- whether a list of terms is canonical: its labels are within the limits of `rules` and strictly increasing in the
-- order of `rules`, and its coefficients are in lowest terms, not 0, and whole numbers unless `rules` allows
-- fractions
abbrev pub is_canonical_by : {Label : Type 0} → LabelRules Label → Terms Label → Bool
is_canonical_by rules terms =
    is_ordered rules.order terms
    && each_term (λ t. is_coefficient rules.has_fractions t.1 && rules.is_within_limits t.0) terms

-- the list of terms is canonical by `rules` (labels in order, coefficients in lowest terms and not 0), as the test
-- `is_canonical_by` decides
abbrev pub IsCanonicalBy : {Label : Type 0} → LabelRules Label → Terms Label → Type 0
IsCanonicalBy rules terms = IsTrue (is_canonical_by rules terms)

-- whether -2^127 ≤ n < 2^127
abbrev pub fits_128_bits : ℤ → Bool
fits_128_bits (pos n) = nat_lt n (2 ^ 127)
fits_128_bits (negsuc n) = nat_lt n (2 ^ 127)

-- whether the numerators and denominators of all coefficients are at least -2^127 and less than 2^127
abbrev pub is_printable : {Label : Type 0} → Terms Label → Bool
is_printable terms = each_term (λ t. fits_128_bits t.1.0 && fits_128_bits (pos t.1.1)) terms
