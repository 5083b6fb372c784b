use Rattle.std.proofs.Common.{◌∙◌, ap}
use Rattle.fraction_laws.specs.Checked.{checked_fraction}
use Rattle.fraction_laws.proofs.Divisors.{quotient_positive, coprime_without}
use Rattle.coeff_rings.proofs.Sizes.{lowest_terms-sizes}
use Rattle.coeff_rings.proofs.frac.reduced.Goals as goal

pub from_sizes-requires-clause-positive : goal.from_sizes-requires-clause-positive
from_sizes-requires-clause-positive c =
    quotient_positive c.args.den c.common_divisor-divisor.result c.requires
    c.common_divisor-divisor.ensures.divisor.1

pub from_sizes-requires-clause-coprime : goal.from_sizes-requires-clause-coprime
from_sizes-requires-clause-coprime c =
    coprime_without c.args.num c.args.den c.common_divisor-divisor.result
    c.common_divisor-divisor.ensures.positive c.common_divisor-divisor.ensures.divisor

pub returns : goal.returns
returns c =
    c.from_sizes.ensures
    ∙ ap checked_fraction (lowest_terms-sizes c.args.negative c.args.num c.args.den
    c.common_divisor-divisor.result c.requires c.common_divisor-divisor.ensures.divisor)
