-- The fractions that `Frac` can hold, and the results of the checked operations of the types of scalars: a value, or
-- None if it or a number of the computation does not fit in 128 bits.
use Rattle.std.specs.Prelude.{ℕ, ◌*◌, ◌/◌, ◌^◌, ◌<◌, Bool, ◌&&◌, ℤ, pos, ◌+ℤ◌, ◌-ℤ◌, ◌*ℤ◌, neg_ℤ}
use Rattle.std.specs.Prelude.{nat_lt, FitsSigned, Option, Some, None, if◌then◌else◌}
use Rattle.std.specs.Int.{w128}
use Rattle.std.specs.Ordering.{int_eq}
use Rattle.sym_model.specs.Canonical.{fits_128_bits}
use Rattle.sym_model.specs.Expansion.{Fraction}
use Rattle.fraction_laws.specs.Fractions.{whole, InLowestTerms, greatest_common_divisor, fraction_sum}
use Rattle.fraction_laws.specs.Fractions.{fraction_difference, fraction_product, fraction_negation}
use Rattle.fraction_laws.specs.Fractions.{fraction_quotient}

-- `Some x` if the test `fits` is true, None otherwise
abbrev pub where_fits : {A : Type 0} → Bool → A → Option A
where_fits fits x = if fits then Some x else None

-- `Some z` if the integer z is an `i128`, from -2^127 to 2^127 - 1; None otherwise
abbrev pub checked_i128 : ℤ → Option ℤ
checked_i128 z = where_fits (fits_128_bits z) z

-- `Some n` if the natural number n is a `u128`, below 2^128; None otherwise
abbrev pub checked_u128 : ℕ → Option ℕ
checked_u128 n = where_fits (nat_lt n (2 ^ 128)) n

-- ---- fractions whose numerators and denominators fit i128, and their checked operations

-- r is a fraction that the type `Frac` can hold: it is in lowest terms, its numerator is an `i128`, and its
-- denominator is below 2^127
pub record IsFraction (r : Fraction) : Type 0 where
  pub fits : FitsSigned w128 r.0
  pub small : r.1 < 2 ^ 127
  pub lowest : InLowestTerms r

-- whether the numerator and the denominator of a fraction fit i128
abbrev pub fits_fraction : Fraction → Bool
fits_fraction r = fits_128_bits r.0 && nat_lt r.1 (2 ^ 127)

-- `Some r` if the numerator and the denominator of the fraction r fit i128; None otherwise
abbrev pub checked_fraction : Fraction → Option Fraction
checked_fraction r = where_fits (fits_fraction r) r

-- the numerator that a has over the least common denominator of a and b
abbrev pub numerator_over_common : Fraction → Fraction → ℤ
numerator_over_common a b = a.0 *ℤ pos (b.1 / greatest_common_divisor a.1 b.1)

-- the least common denominator of a and b
abbrev pub common_denominator : Fraction → Fraction → ℕ
common_denominator a b = a.1 * (b.1 / greatest_common_divisor a.1 b.1)

-- the numerators of a and b over the least common denominator of a and b fit i128, and so does that denominator
pub record CommonFits (a b : Fraction) : Type 0 where
  pub left : FitsSigned w128 (numerator_over_common a b)
  pub right : FitsSigned w128 (numerator_over_common b a)
  pub den : common_denominator a b < 2 ^ 127

-- whether four numbers fit i128: the least common denominator of a and b, the numerators of a and b over this denominator,
-- and the number `total`, which is the sum or the difference of these two numerators
abbrev pub four_numbers_fit : Fraction → Fraction → ℤ → Bool
four_numbers_fit a b total =
    fits_128_bits (numerator_over_common a b) && fits_128_bits (numerator_over_common b a)
    && fits_128_bits total && fits_128_bits (pos (common_denominator a b))

-- the sum of a and b in lowest terms; None if one of the numbers of `four_numbers_fit` does not fit i128
abbrev pub checked_fraction_sum : Fraction → Fraction → Option Fraction
checked_fraction_sum a b =
    where_fits (four_numbers_fit a b (numerator_over_common a b +ℤ numerator_over_common b a))
    (fraction_sum a b)

-- the difference of a and b in lowest terms; None if one of the numbers of `four_numbers_fit` does not fit i128
abbrev pub checked_fraction_difference : Fraction → Fraction → Option Fraction
checked_fraction_difference a b =
    where_fits (four_numbers_fit a b (numerator_over_common a b -ℤ numerator_over_common b a))
    (fraction_difference a b)

-- the product of a and b in lowest terms; None if its numerator or denominator does not fit i128
abbrev pub checked_fraction_product : Fraction → Fraction → Option Fraction
checked_fraction_product a b = checked_fraction (fraction_product a b)

-- for b not 0: the quotient a/b in lowest terms; None if its numerator or denominator does not fit i128
abbrev pub checked_fraction_quotient : Fraction → Fraction → Option Fraction
checked_fraction_quotient a b = checked_fraction (fraction_quotient a b)

-- the negation of a; None if and only if a has the numerator -2^127
abbrev pub checked_fraction_negation : Fraction → Option Fraction
checked_fraction_negation a =
    if int_eq a.0 (neg_ℤ (pos (2 ^ 127))) then None else Some (fraction_negation a)

-- the fraction num/den in lowest terms; None if den is 0 or the numerator or denominator in lowest terms does not fit
-- i128
abbrev pub checked_fraction_of : ℤ → ℤ → Option Fraction
checked_fraction_of num den =
    if int_eq den (pos 0) then None else checked_fraction_quotient (whole num) (whole den)
