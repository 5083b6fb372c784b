-- The results of the checked operations of a type of scalars: each result has the exact value, and under certain
-- conditions there is a result.
use Rattle.std.specs.Prelude.{◌≡◌, ℕ, pos, Option, Some, IsSome, IfSome}
use Rattle.sym_model.specs.Expansion.{Fraction}
use Rattle.fraction_laws.specs.Fractions.{whole, fraction_sum, fraction_difference, fraction_product}
use Rattle.fraction_laws.specs.Fractions.{fraction_negation, fraction_quotient}
use Rattle.fraction_laws.specs.Room.{HasRoomForSum, HasRoomForProduct, HasRoomForQuotient}
use Rattle.fraction_laws.specs.Room.{HasRoomForNegation}

-- `answer` is the result of a checked addition of a and b. If it is `Some s`, then s has the value of a plus the value of b. It is `Some b` if a is
-- 0, and `Some a` if b is 0. It is not None if, for some common denominator d of a and b, both d and |a|·d + |b|·d are below 2^127.
pub record AnswersSum {A : Type 0} (value_of : A → Fraction) (a b : A)
    (answer : Option A) : Type 0 where
  pub value : IfSome answer (λ s. value_of s ≡ fraction_sum (value_of a) (value_of b))
  pub zero_left : value_of a ≡ whole (pos 0) → answer ≡ Some b
  pub zero_right : value_of b ≡ whole (pos 0) → answer ≡ Some a
  pub room : (d : ℕ) → HasRoomForSum d (value_of a) (value_of b) → IsSome answer

-- `answer` is the result of a checked subtraction of b from a. If it is `Some s`, then s has the value of a minus the
-- value of b. It is not None if, for some common denominator d of a and b, both d and |a|·d + |b|·d are below 2^127.
pub record AnswersDifference {A : Type 0} (value_of : A → Fraction) (a b : A)
    (answer : Option A) : Type 0 where
  pub value : IfSome answer (λ s. value_of s ≡ fraction_difference (value_of a) (value_of b))
  pub room : (d : ℕ) → HasRoomForSum d (value_of a) (value_of b) → IsSome answer

-- `answer` is the result of a checked multiplication of a and b. If it is `Some s`, then s has the value of a times the
-- value of b. It is not None if, for some multiples d of the denominator of a and e of the denominator of b, both d·e and
-- |a|·d·|b|·e are below 2^127.
pub record AnswersProduct {A : Type 0} (value_of : A → Fraction) (a b : A)
    (answer : Option A) : Type 0 where
  pub value : IfSome answer (λ s. value_of s ≡ fraction_product (value_of a) (value_of b))
  pub room : (d e : ℕ) → HasRoomForProduct d e (value_of a) (value_of b) → IsSome answer

-- `answer` is the result of a checked negation of a. If it is `Some s`, then s has the value of a, negated. It is not None
-- if the absolute value of the numerator of a is below 2^127.
pub record AnswersNegation {A : Type 0} (value_of : A → Fraction) (a : A)
    (answer : Option A) : Type 0 where
  pub value : IfSome answer (λ s. value_of s ≡ fraction_negation (value_of a))
  pub room : HasRoomForNegation (value_of a) → IsSome answer

-- `answer` is the result of a checked division of a by b. If it is `Some s`, then s has the value of a divided by the
-- value of b. It is not None if, for some multiples d of the denominator of a and e of the denominator of 1/b, both d·e
-- and |a|·d·|1/b|·e are below 2^127.
pub record AnswersQuotient {A : Type 0} (value_of : A → Fraction) (a b : A)
    (answer : Option A) : Type 0 where
  pub value : IfSome answer (λ s. value_of s ≡ fraction_quotient (value_of a) (value_of b))
  pub room : (d e : ℕ) → HasRoomForQuotient d e (value_of a) (value_of b) → IsSome answer
