use Rattle.std.proofs.Common.{List, ℕ, ◌∷◌, [], pos, subst}
use Rattle.sym_model.specs.Bases.{monomial}
use Rattle.sym_model.specs.Polynomial.{Same}
use Rattle.sym_model.proofs.Polynomials.{Same_sym}
use Rattle.monomial_laws.proofs.ExpressionTerms.{list_respects, list-monomial}
use Rattle.linear_combinations.proofs.Steps.{if_answered}
use Rattle.basis_expand.proofs.monomial_atoms.terms_of.Goals as goal

pub returns-in-M-clause-value : goal.returns-in-M-clause-value
returns-in-M-clause-value c =
    rw c.in-M.is
    (if_answered c.single.result c.single.ensures.value
    (λ list e. list_respects ((c.args.label.now, pos 1) ∷ []) list (monomial c.args.label.now)
    (Same_sym list ((c.args.label.now, pos 1) ∷ [])
    (subst (λ (parts : List ℕ). Same list ((parts, pos 1) ∷ [])) c.parts-parts.ensures.value e))
    (list-monomial c.args.label.now)))
