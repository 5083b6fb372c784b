use Rattle.sym_model.proofs.Restrictions.{restrict-monomial, restrict-elementary, restrict-complete}
use Rattle.sym_model.proofs.Restrictions.{restrict-power_sum, monomial_few_variables}
use Rattle.sym_model.proofs.restriction.restriction_law.Goals as goal

pub returns-clause-monomial : goal.returns-clause-monomial
returns-clause-monomial c = restrict-monomial

pub returns-clause-elementary : goal.returns-clause-elementary
returns-clause-elementary c = restrict-elementary

pub returns-clause-complete : goal.returns-clause-complete
returns-clause-complete c = restrict-complete

pub returns-clause-power_sum : goal.returns-clause-power_sum
returns-clause-power_sum c = restrict-power_sum

pub returns-clause-few_variables : goal.returns-clause-few_variables
returns-clause-few_variables c = monomial_few_variables
