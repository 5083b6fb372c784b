use Rattle.sym_model.proofs.GreatestCommonDivisors.{IsGcd-gcd, gcd-greatest}
use Rattle.sym_model.proofs.divisors.greatest_common_divisor_law.Goals as goal

pub returns-clause-divides_first : goal.returns-clause-divides_first
returns-clause-divides_first c a b = (IsGcd-gcd a b).0

pub returns-clause-divides_second : goal.returns-clause-divides_second
returns-clause-divides_second c a b = (IsGcd-gcd a b).1

pub returns-clause-greatest : goal.returns-clause-greatest
returns-clause-greatest c = gcd-greatest
