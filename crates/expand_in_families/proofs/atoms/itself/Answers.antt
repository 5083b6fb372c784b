use Rattle.std.proofs.Common.{◌≤◌, List, ℕ, ℤ, [], ◌∷◌, pos, refl, sym, ◌∙◌, ap, subst, to_z-of_z}
use Rattle.std.specs.Int.{w128}
use Rattle.sym_model.specs.Expression.{atom}
use Rattle.sym_model.specs.Partition.{size}
use Rattle.sym_model.specs.Polynomial.{Same}
use Rattle.sym_model.specs.Weight.{factorial}
use Rattle.sym_model.specs.WholeTerms.{WholeTerms}
use Rattle.basis_change_laws.proofs.GrowthBounds.{grown, factorial-within}
use Rattle.sparse_polys.specs.Families.{basis_in, polynomial_of}
use Rattle.family_lists.proofs.PartLists.{stands-itself}
use Rattle.expand_in_families.proofs.AtomNodes.{family-atom}
use Rattle.expand_in_families.specs.Nodes.{ClearsTo, IsHeavyInFamilies}
use Rattle.basis_expand.proofs.Making.{done}
use Rattle.family_lists.proofs.FactorSteps.{factorial-below}
use Rattle.expand_in_families.proofs.atoms.itself.Goals as goal

-- the list of one term with the label `parts` and the coefficient z
abbrev term : List ℕ → ℤ → WholeTerms
term parts z = (parts, z) ∷ []

pub whole_of-requires : goal.whole_of-requires
whole_of-requires c = factorial-below c.factorial.result c.size-degree.result c.factorial.ensures
    (subst (λ d. d ≤ 20) (sym c.size-degree.ensures.value) c.requires)

pub returns : goal.returns
returns c target =
    let parts = c.args.label.now in
    let number =
    to_z-of_z {w = w128} {z = c.get.result} (record { sfits = c.get.type_inv }) ∙ c.get.ensures
    ∙ c.whole_of.ensures ∙ ap pos (c.factorial.ensures ∙ ap factorial
    c.size-degree.ensures.value) in
    let same : Same c.in_ok-terms.terms
    (term c.args.label.now (pos (factorial (size c.args.label.now)))) =
    subst (λ (p : List ℕ). Same c.in_ok-terms.terms
    (term p (pos (factorial (size c.args.label.now))))) c.parts.ensures.value
    (subst (λ z. Same c.in_ok-terms.terms (term c.parts.result.now z)) number
    c.in_ok-terms.ensures.value) in
    done (ClearsTo (polynomial_of target)) IsHeavyInFamilies (atom (basis_in target) c.args.label.now) _
    (family-atom (polynomial_of target) target parts _ refl c.size-degree.ensures.value
    (stands-itself (polynomial_of target) parts (factorial (size parts)) (grown (size parts))
    c.in_ok-terms.terms c.size-degree.ensures.limits.partition (factorial-within (size parts))
    c.in_ok-terms.ensures.table same))
