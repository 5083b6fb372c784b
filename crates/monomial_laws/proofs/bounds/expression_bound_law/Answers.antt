use Rattle.sym_model.specs.Expression.{degree, cleared_value}
use Rattle.sym_model.specs.Weight.{numerator}
use Rattle.monomial_laws.proofs.Majorants.{bounded_value, coefficient_bound, coefficient-higher}
use Rattle.monomial_laws.proofs.bounds.expression_bound_law.Goals as goal

pub returns-clause-bounded : goal.returns-clause-bounded
returns-clause-bounded c = bounded_value

pub returns-clause-coefficients : goal.returns-clause-coefficients
returns-clause-coefficients c e n α long = coefficient_bound (numerator e) (degree e) n
    (cleared_value e n) (bounded_value e n) α long

pub returns-clause-no_higher : goal.returns-clause-no_higher
returns-clause-no_higher c e n α long high = coefficient-higher (numerator e) (degree e) n
    (cleared_value e n) (bounded_value e n) α long high
