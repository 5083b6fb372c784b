use Rattle.std.proofs.Common.{refl, ap, Err}
use Rattle.sym_model.specs.Expansion.{schurs}
use Rattle.sym_model.specs.Expression.{atom}
use Rattle.sparse_polys.specs.Families.{polynomial_of}
use Rattle.expand_in_families.proofs.AtomNodes.{clears-atom, large-atom}
use Rattle.expand_in_families.specs.Nodes.{ClearsTo, IsHeavyInFamilies}
use Rattle.basis_expand.proofs.Making.{done, failed}
use Rattle.expand_in_families.proofs.atoms.by_hooks.Goals as goal

pub returns-in_err-terms : goal.returns-in_err-terms
returns-in_err-terms c =
    failed (ClearsTo (polynomial_of c.args.target)) IsHeavyInFamilies (atom schurs c.args.label.now) _ _
    c.from_residual.ensures.0 c.from_residual.ensures.1
    (λ large. large-atom schurs c.args.label.now (c.in_err-terms.ensures.large (ap Err large)))

pub returns : goal.returns
returns c =
    done (ClearsTo (polynomial_of c.args.target)) IsHeavyInFamilies (atom schurs c.args.label.now) _
    (clears-atom (polynomial_of c.args.target) schurs c.args.label.now _ refl
    c.size-degree.ensures.value c.in_ok-terms.ensures.value)
