use Rattle.schur_laws.proofs.degree.degree_law.Goals as goal
use Rattle.schur_laws.proofs.FewVariables.{families_agree}
use Rattle.schur_laws.proofs.Families.{expansions_agree}

pub returns-clause-agrees : goal.returns-clause-agrees
returns-clause-agrees c = families_agree

pub returns-clause-expansions : goal.returns-clause-expansions
returns-clause-expansions c = expansions_agree
