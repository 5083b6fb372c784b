use Rattle.sparse_polys.proofs.WholeLists.{if_ok_both}
use Rattle.basis_expand.proofs.InMonomials.{within-whole, expansion-in_monomials}
use Rattle.basis_expand.proofs.through_schurs.in_monomials.Goals as goal

pub schurs_to_monomials-requires-clause-within : goal.schurs_to_monomials-requires-clause-within
schurs_to_monomials-requires-clause-within c =
    within-whole c.greatest_size-cells.result c.in_ok-den.den c.args.list.now c.in_ok-terms.terms
    c.in_ok-terms.ensures.table c.greatest_size-cells.ensures.within
    c.in_ok-terms.ensures.value

pub returns : goal.returns
returns c =
    if_ok_both c.divided.result c.divided.ensures.value c.divided.ensures.table
    (λ answer quotients table n f q h.
    expansion-in_monomials c.args.list.now answer c.in_ok-terms.terms c.in_ok-answer.answer
    c.in_ok-den.den c.in_ok-den.ensures.1
    c.in_ok-terms.ensures.value c.in_ok-answer.ensures.value table quotients n f q h)
