use Rattle.std.proofs.Common.{◌≤◌, ◌^◌, List, ℕ, refl, ◌∙◌, ap, subst, Err}
use Rattle.sym_model.specs.Bases.{product_over}
use Rattle.sym_model.specs.Expansion.{completes}
use Rattle.sym_model.specs.Expression.{atom}
use Rattle.sym_model.specs.Partition.{size}
use Rattle.sym_model.specs.Weight.{factorial, growth}
use Rattle.basis_change_laws.specs.JoinedLists.{Stands}
use Rattle.sparse_polys.specs.Families.{basis_in, polynomial_of}
use Rattle.expand_in_families.proofs.AtomNodes.{family-atom, large-atom}
use Rattle.expand_in_families.specs.Nodes.{ClearsTo, IsHeavyInFamilies}
use Rattle.basis_expand.proofs.Making.{done, failed}
use Rattle.expand_in_families.proofs.atoms.by_parts.Goals as goal

pub returns-in_err-terms : goal.returns-in_err-terms
returns-in_err-terms c =
    failed (ClearsTo (polynomial_of c.args.target)) IsHeavyInFamilies
    (atom (basis_in c.args.family) c.args.label.now) _ _ c.from_residual.ensures.0
    c.from_residual.ensures.1
    (λ large.
    large-atom (basis_in c.args.family) c.args.label.now
    (subst (λ (p : List ℕ). 2 ^ 127 ≤ growth completes (size p)) c.parts.ensures.value
    (c.in_err-terms.ensures.large (ap Err large))))

pub returns : goal.returns
returns c =
    done (ClearsTo (polynomial_of c.args.target)) IsHeavyInFamilies
    (atom (basis_in c.args.family) c.args.label.now) _
    (family-atom (polynomial_of c.args.target) c.args.family c.args.label.now _ refl
    (c.in_ok-terms.ensures.size ∙ ap size c.parts.ensures.value)
    (subst (λ (p : List ℕ). Stands (polynomial_of c.args.target) (factorial (size p))
    (growth completes (size p)) (size p) (product_over (polynomial_of c.args.family) p)
    c.in_ok-terms.terms) c.parts.ensures.value c.in_ok-terms.ensures.value))
