use Rattle.basis_change_laws.proofs.NewtonIdentities.{newton_complete, newton_elementary}
use Rattle.basis_change_laws.proofs.newton.newton_law.Goals as goal

pub returns-clause-complete : goal.returns-clause-complete
returns-clause-complete c = newton_complete

pub returns-clause-elementary : goal.returns-clause-elementary
returns-clause-elementary c = newton_elementary
