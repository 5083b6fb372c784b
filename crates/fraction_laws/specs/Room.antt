-- Conditions under which a checked sum, difference, product, quotient or negation of fractions must have a result:
-- for some multiples of the denominators of the fractions, certain bounds of the numerator and the denominator of the
-- result are below 2^127.
use Rattle.std.specs.Prelude.{ℕ, ◌+◌, ◌*◌, ◌/◌, ◌^◌, ◌<◌, unsigned_abs}
use Rattle.std.specs.Int.{◌∣◌}
use Rattle.sym_model.specs.Expansion.{Fraction}
use Rattle.fraction_laws.specs.Fractions.{reciprocal}

-- |r|·d, the absolute value of the fraction r times d, for a multiple d of the denominator of r
abbrev pub magnitude : ℕ → Fraction → ℕ
magnitude d r = unsigned_abs r.0 * (d / r.1)

-- d is a positive common denominator of a and b below 2^127, and |a|·d + |b|·d is below 2^127
pub record HasRoomForSum (d : ℕ) (a b : Fraction) : Type 0 where
  pub positive : 0 < d
  pub small : d < 2 ^ 127
  pub left : a.1 ∣ d
  pub right : b.1 ∣ d
  pub room : magnitude d a + magnitude d b < 2 ^ 127

-- d is a positive multiple of the denominator of a, and e a positive multiple of that of b; d·e is below 2^127, and
-- so is |a|·d·|b|·e
pub record HasRoomForProduct (d e : ℕ) (a b : Fraction) : Type 0 where
  pub left_positive : 0 < d
  pub right_positive : 0 < e
  pub small : d * e < 2 ^ 127
  pub left : a.1 ∣ d
  pub right : b.1 ∣ e
  pub room : magnitude d a * magnitude e b < 2 ^ 127

-- d is a positive multiple of the denominator of a, and e a positive multiple of that of 1/b; d·e is below 2^127, and
-- so is |a|·d·|1/b|·e
abbrev pub HasRoomForQuotient : ℕ → ℕ → Fraction → Fraction → Type 0
HasRoomForQuotient d e a b = HasRoomForProduct d e a (reciprocal b)

-- the absolute value of the numerator of the fraction is below 2^127
abbrev pub HasRoomForNegation : Fraction → Type 0
HasRoomForNegation a = magnitude a.1 a < 2 ^ 127
