use Rattle.basis_expand.proofs.schur_atoms.atom.Goals as goal

pub returns-in-M : goal.returns-in-M
returns-in-M c = rw c.in-M.is c.from_monomial.ensures

pub returns-in-E : goal.returns-in-E
returns-in-E c = rw c.in-E.is c.columns_product.ensures.value

pub returns-in-H : goal.returns-in-H
returns-in-H c = rw c.in-H.is c.rows_product.ensures.value

pub returns-in-P : goal.returns-in-P
returns-in-P c = rw c.in-P.is c.hooks_product.ensures.value

pub returns-in-S : goal.returns-in-S
returns-in-S c = rw c.in-S.is c.from_schur.ensures
