use Rattle.std.proofs.Common.{ℕ, ℤ, [], ◌∷◌, ◌∙◌, subst, to_z-of_z}
use Rattle.std.specs.Int.{w128}
use Rattle.sym_model.specs.Polynomial.{Same}
use Rattle.sym_model.specs.WholeTerms.{WholeTerms}
use Rattle.sparse_polys.proofs.WholeLists.{if_ok_both}
use Rattle.family_lists.proofs.FactorSteps.{own-stands}
use Rattle.family_lists.proofs.factors.own_list.Goals as goal

-- the list of one term with the label (k) and the coefficient z
abbrev term : ℕ → ℤ → WholeTerms
term k z = (k ∷ [], z) ∷ []

pub returns-clause-value : goal.returns-clause-value
returns-clause-value c =
    let number =
    to_z-of_z {w = w128} {z = c.get.result} (record { sfits = c.get.type_inv })
    ∙ c.get.ensures ∙ c.over.ensures in
    if_ok_both c.single.result c.single.ensures.value c.single.ensures.table
    (λ list same is. own-stands c.args.family c.args.k list c.requires.0 is
    (subst (λ z. Same list (term c.args.k z)) number same))
