use Rattle.std.proofs.Common.{subst, List, ℕ, pos}
use Rattle.fraction_laws.specs.Fractions.{whole}
use Rattle.sym_model.specs.Expansion.{Fraction}
use Rattle.sparse_polys.proofs.Coefficients.{if_answered}
use Rattle.basis_expand.specs.SchurLists.{IsOneTerm}
use Rattle.basis_expand.proofs.OneTerms.{expansion_schur}
use Rattle.basis_expand.proofs.schur_atoms.from_schur.Goals as goal

pub returns : goal.returns
returns c =
    if_answered c.single.result c.single.ensures
    (λ list is.
    expansion_schur c.args.label.now list
    (subst (λ (l : List ℕ). IsOneTerm l (whole (pos 1)) list) c.parts.ensures.value
    (subst (λ (x : Fraction). IsOneTerm c.parts.result.now x list) c.one.ensures.value is)))
