use Rattle.double_schubert_laws.proofs.DoubleDominant.{In_double, dominant_product}
use Rattle.double_schubert_laws.proofs.DoubleVariables.{any_descent_double, any_places}
use Rattle.double_schubert_laws.proofs.DoubleVariables.{identity_double, kept_in}
use Rattle.double_schubert_laws.proofs.double_laws.double_schubert_law.Goals as goal

pub returns-clause-descent : goal.returns-clause-descent
returns-clause-descent c = any_descent_double

pub returns-clause-variables : goal.returns-clause-variables
returns-clause-variables c = λ w m. In_double m w

pub returns-clause-dominant : goal.returns-clause-dominant
returns-clause-dominant c = λ w m. dominant_product m w

pub returns-clause-any_places : goal.returns-clause-any_places
returns-clause-any_places c = any_places

pub returns-clause-kept : goal.returns-clause-kept
returns-clause-kept c = kept_in

pub returns-clause-identity : goal.returns-clause-identity
returns-clause-identity c = identity_double
