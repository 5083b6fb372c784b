use Rattle.independence_laws.proofs.IndependentPowers.{powers-independent}
use Rattle.independence_laws.proofs.powers.power_independence_law.Goals as goal

pub returns : goal.returns
returns c = powers-independent
