use Rattle.std.proofs.Common.{◌∙◌, ap, subst, [], to_z-of_z}
use Rattle.fraction_laws.specs.Fractions.{lowest_terms}
use Rattle.sym_model.specs.Expansion.{Fraction}
use Rattle.sparse_polys.proofs.Coefficients.{if_answered}
use Rattle.basis_expand.specs.SchurLists.{IsOneTerm}
use Rattle.basis_expand.proofs.OneTerms.{quotient-list}
use Rattle.basis_expand.proofs.schur_atoms.quotient.Goals as goal

pub returns : goal.returns
returns c =
    if_answered c.single.result c.single.ensures
    (λ list is.
    quotient-list c.args.num c.args.den list c.requires.sign c.requires.den.0
    (subst (λ (x : Fraction). IsOneTerm [] x list)
    (c.quotient_of.ensures ∙ ap (λ z. lowest_terms z c.args.den)
    (c.new.ensures ∙ to_z-of_z c.ranges.num)) is))
