use Rattle.monomial_laws.proofs.IndependentMonomials.{monomials-independent}
use Rattle.monomial_laws.proofs.independence.monomial_independence_law.Goals as goal

pub returns : goal.returns
returns c = monomials-independent
