use Rattle.schur_laws.proofs.KostkaNumbers.{coefficient-kostka}
use Rattle.schur_laws.proofs.SchurLists.{list-schur, kostka-within}
use Rattle.schur_laws.proofs.schur_expansion.schur_in_monomials_law.Goals as goal

pub returns-clause-expansion : goal.returns-clause-expansion
returns-clause-expansion c = list-schur

pub returns-clause-numbers : goal.returns-clause-numbers
returns-clause-numbers c = coefficient-kostka

pub returns-clause-bounded : goal.returns-clause-bounded
returns-clause-bounded c = kostka-within
