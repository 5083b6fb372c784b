use Rattle.std.proofs.Common.{arith}
use Rattle.alternant_laws.proofs.GoodAlternants.{stembridge}
use Rattle.alternant_laws.proofs.SchurProducts.{bialternant, schur_few_variables}
use Rattle.alternant_laws.proofs.stembridge.stembridge_law.Goals as goal

pub returns-clause-identity : goal.returns-clause-identity
returns-clause-identity c = stembridge

pub returns-clause-straight : goal.returns-clause-straight
returns-clause-straight c = bialternant

pub returns-clause-few_variables : goal.returns-clause-few_variables
returns-clause-few_variables c = λ n parts p h. schur_few_variables n parts p (omega arith)
