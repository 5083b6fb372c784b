use Rattle.std.proofs.Common.{refl}
use Rattle.basis_change_laws.proofs.AugmentedMonomials.{power_sum_times_augmented}
use Rattle.basis_change_laws.proofs.augmented.augmented_monomial_law.Goals as goal

pub returns-clause-power_sum : goal.returns-clause-power_sum
returns-clause-power_sum c = power_sum_times_augmented

pub returns-clause-factorials : goal.returns-clause-factorials
returns-clause-factorials c = refl
