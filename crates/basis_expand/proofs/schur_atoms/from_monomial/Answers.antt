use Rattle.std.proofs.Common.{subst, List, ℕ, pos, rules}
use Rattle.fraction_laws.specs.Fractions.{whole}
use Rattle.sym_model.specs.Expansion.{Fraction}
use Rattle.sparse_polys.proofs.Coefficients.{if_answered}
use Rattle.basis_expand.specs.SchurLists.{IsOneTerm}
use Rattle.basis_expand.proofs.OneTerms.{expansion_monomial, bounded_monomial, within_monomial}
use Rattle.basis_expand.proofs.schur_atoms.from_monomial.Goals as goal

pub to_basis-requires-clause-bounded : goal.to_basis-requires-clause-bounded
to_basis-requires-clause-bounded c =
    bounded_monomial c.parts.result.now c.in_ok-list.list
    (subst (λ (x : Fraction). IsOneTerm c.parts.result.now x c.in_ok-list.list) c.one.ensures.value
    c.in_ok-list.ensures)

pub to_basis-requires-clause-sizes : goal.to_basis-requires-clause-sizes
to_basis-requires-clause-sizes c t m = search (rules, within_monomial)

pub returns : goal.returns
returns c =
    if_answered c.to_basis.result c.to_basis.ensures.value
    (λ list h n. h n _ 1
    (expansion_monomial c.args.label.now c.in_ok-list.list
    (subst (λ (l : List ℕ). IsOneTerm l (whole (pos 1)) c.in_ok-list.list) c.parts.ensures.value
    (subst (λ (x : Fraction). IsOneTerm c.parts.result.now x c.in_ok-list.list) c.one.ensures.value
    c.in_ok-list.ensures)) n))
