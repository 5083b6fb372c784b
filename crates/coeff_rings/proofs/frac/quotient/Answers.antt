use Rattle.std.proofs.Common.{◌≡◌, ℕ, to_z-of_z, ap, ◌∙◌, subst, unsigned_abs, ℤ, pos, int_lt}
use Rattle.std.specs.Int.{IsGcd, ◌∣◌}
use native.Mathlib.Nat.{pos_of_dvd_of_pos}
use Rattle.fraction_laws.specs.Fractions.{lowest_terms}
use Rattle.coeff_rings.specs.Signs.{signed}
use Rattle.fraction_laws.specs.Checked.{checked_fraction}
use Rattle.fraction_laws.proofs.Divisors.{coprime_from, coprime_without, quotient_positive}
use Rattle.coeff_rings.proofs.CommonDivisors.{IsGcd-by_factor}
use Rattle.coeff_rings.proofs.FractionSteps.{IsFraction-coprime, checked_fraction-coprime}
use Rattle.coeff_rings.proofs.Sizes.{lowest_terms-sizes, signed_self}
use Rattle.coeff_rings.proofs.frac.quotient.Goals as goal

coprime : (c : goal.Then-divisor-eq1) → IsGcd (unsigned_abs c.args.num) c.args.den 1
coprime c = coprime_from (unsigned_abs c.args.num) c.args.den
    (λ d p q. subst (λ (n : ℕ). d ∣ n) c.if-divisor-eq1.true (c.requires.common d p q))

pub invariant_of-result : goal.invariant_of-result
invariant_of-result c =
    rw (to_z-of_z c.ranges.num) (IsFraction-coprime c.args.num c.args.den c.ranges.num
    c.requires.positive c.requires.small (coprime c))

pub returns-then-divisor-eq1 : goal.returns-then-divisor-eq1
returns-then-divisor-eq1 c =
    rw (to_z-of_z c.ranges.num) (checked_fraction-coprime c.args.num c.args.den c.ranges.num
    c.requires.positive c.requires.small (coprime c))

pub common_divisor-shared-requires : goal.common_divisor-shared-requires
common_divisor-shared-requires c = pos_of_dvd_of_pos c.requires.factor c.requires.positive

shared : (c : goal.After-common_divisor-shared) → IsGcd c.unsigned_abs-size.result c.args.den
    c.common_divisor-shared.result
shared c =
    IsGcd-by_factor c.args.num _ _ c.args.divisor _
    (rw (to_z-of_z c.ranges.num) at c.unsigned_abs-size.ensures.value)
    c.requires.factor c.requires.common c.common_divisor-shared.ensures.divisor

pub from_sizes-requires-clause-positive : goal.from_sizes-requires-clause-positive
from_sizes-requires-clause-positive c = quotient_positive c.args.den c.common_divisor-shared.result
    c.requires.positive (shared c).1

pub from_sizes-requires-clause-coprime : goal.from_sizes-requires-clause-coprime
from_sizes-requires-clause-coprime c = coprime_without _ c.args.den c.common_divisor-shared.result
    c.common_divisor-shared.ensures.positive (shared c)

pub returns : goal.returns
returns c =
    let size : c.unsigned_abs-size.result ≡ unsigned_abs c.args.num = rw (to_z-of_z c.ranges.num)
    at c.unsigned_abs-size.ensures.value in
    let negative = int_lt c.args.num (pos 0) in
    let divisor = IsGcd-by_factor c.args.num _ c.args.den c.args.divisor _ size c.requires.factor
    c.requires.common c.common_divisor-shared.ensures.divisor in
    let is = rw (to_z-of_z c.ranges.num) at c.from_sizes.ensures in
    is
    ∙ ap checked_fraction (lowest_terms-sizes negative c.unsigned_abs-size.result c.args.den
    c.common_divisor-shared.result c.requires.positive divisor
    ∙ ap (λ (n : ℕ). lowest_terms (signed negative n) c.args.den) size ∙ ap (λ (z : ℤ).
    lowest_terms z c.args.den) (signed_self c.args.num))
