use Rattle.std.proofs.Common.{refl}
use Rattle.fraction_laws.specs.Fractions.{lowest_terms, greatest_common_divisor}
use Rattle.worked_examples.proofs.fractions.fraction_examples_law.Goals as goal

pub returns : goal.returns
unfolding lowest_terms greatest_common_divisor
returns c = record { sum = refl; difference = refl; product = refl; quotient = refl }
