use Rattle.family_list_laws.proofs.IndependentPowerSums.{power_sums-independent}
use Rattle.family_list_laws.proofs.IndependentFamilies.{elementaries-independent, completes-independent}
use Rattle.family_list_laws.proofs.independence.family_independence_law.Goals as goal

pub returns-clause-power_sums : goal.returns-clause-power_sums
returns-clause-power_sums c = power_sums-independent

pub returns-clause-elementary : goal.returns-clause-elementary
returns-clause-elementary c = elementaries-independent

pub returns-clause-complete : goal.returns-clause-complete
returns-clause-complete c = completes-independent
