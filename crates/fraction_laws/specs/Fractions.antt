-- Fractions of integers, which are the values of scalars, and their sums, differences, products and quotients.
use Rattle.std.specs.Prelude.{ℕ, suc, ◌*◌, ◌/◌, ◌<◌, ℤ, pos, negsuc, neg_ℤ}
use Rattle.std.specs.Prelude.{◌+ℤ◌, ◌-ℤ◌, ◌*ℤ◌, unsigned_abs, int_div}
use Rattle.std.specs.Int.{IsGcd}
use Rattle.sym_model.specs.Canonical.{gcd}
use Rattle.sym_model.specs.Expansion.{Fraction}

-- an integer as a fraction with the denominator 1
abbrev pub whole : ℤ → Fraction
whole z = (z, 1)

-- a natural number as a fraction with the denominator 1
abbrev pub whole_count : ℕ → Fraction
whole_count n = whole (pos n)

-- the fraction r times d: an integer, if d is a multiple of the denominator of r
abbrev pub scaled : ℕ → Fraction → ℤ
scaled d r = r.0 *ℤ pos (d / r.1)

-- the fraction r is in lowest terms: its denominator is positive, and the greatest common divisor of its numerator
-- and denominator is 1
pub record InLowestTerms (r : Fraction) : Type 0 where
  pub positive : 0 < r.1
  pub coprime : IsGcd (unsigned_abs r.0) r.1 1

-- the greatest common divisor of two numbers
unfoldable pub greatest_common_divisor : ℕ → ℕ → ℕ
greatest_common_divisor a b = gcd a b

-- the integer n divided by the positive number d, as a fraction in lowest terms
unfoldable pub lowest_terms : ℤ → ℕ → Fraction
lowest_terms n d =
    let g = greatest_common_divisor (unsigned_abs n) d in
    (int_div n (pos g), d / g)

-- the sum of two fractions, p/q + r/s = (p·s + r·q)/(q·s) in lowest terms
abbrev pub fraction_sum : Fraction → Fraction → Fraction
fraction_sum a b = lowest_terms (a.0 *ℤ pos b.1 +ℤ b.0 *ℤ pos a.1) (a.1 * b.1)

-- the difference of two fractions, p/q - r/s = (p·s - r·q)/(q·s) in lowest terms
abbrev pub fraction_difference : Fraction → Fraction → Fraction
fraction_difference a b = lowest_terms (a.0 *ℤ pos b.1 -ℤ b.0 *ℤ pos a.1) (a.1 * b.1)

-- the product of two fractions, p/q times r/s = p·r/(q·s) in lowest terms
abbrev pub fraction_product : Fraction → Fraction → Fraction
fraction_product a b = lowest_terms (a.0 *ℤ b.0) (a.1 * b.1)

-- the negation of a fraction, -(p/q) = (-p)/q
abbrev pub fraction_negation : Fraction → Fraction
fraction_negation a = (neg_ℤ a.0, a.1)

-- d/n, for the integer n other than 0: the fraction n/d with numerator and denominator exchanged, and with the sign
-- in the numerator
abbrev pub turned_over : ℤ → ℕ → Fraction
turned_over (pos n) d = (pos d, n)
turned_over (negsuc n) d = (neg_ℤ (pos d), suc n)

-- the reciprocal 1/a of a fraction a that is not 0
abbrev pub reciprocal : Fraction → Fraction
reciprocal a = turned_over a.0 a.1

-- the quotient a/b of two fractions, for b not 0: a times the reciprocal of b
abbrev pub fraction_quotient : Fraction → Fraction → Fraction
fraction_quotient a b = fraction_product a (reciprocal b)
