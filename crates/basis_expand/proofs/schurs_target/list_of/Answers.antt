use Rattle.std.proofs.Common.{◌≡◌, sym, subst}
use Rattle.std.specs.Prelude.{IfOk}
use Rattle.sym_model.specs.Expression.{atom}
use Rattle.expression_reading.specs.Trees.{basis_of}
use Rattle.basis_expand.specs.SchurLists.{StandsFor}
use Rattle.basis_expand.proofs.schurs_target.list_of.Goals as goal

pub returns-in-Atom : goal.returns-in-Atom
returns-in-Atom c e h =
    let is : e ≡ atom (basis_of c.in-Atom.basis) c.in-Atom.label = rw c.in-Atom.is at h in
    subst (λ t. IfOk c.atom.result (StandsFor t)) (sym is) c.atom.ensures
