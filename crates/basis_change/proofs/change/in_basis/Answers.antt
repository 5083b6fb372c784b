use Rattle.std.proofs.Common.{subst, sym, Ok}
use Rattle.expression_reading.specs.Trees.{basis_of}
use Rattle.basis_change.specs.ClearedAnswer.{IsChanged}
use Rattle.basis_change.proofs.ChangedLists.{unchanged}
use Rattle.basis_change.proofs.change.in_basis.Goals as goal

pub returns-in-M : goal.returns-in-M
returns-in-M c =
    subst (λ t. IsChanged (basis_of t) c.args.size c.args.list (Ok c.args.list)) (sym c.in-M.is)
    (unchanged c.args.size c.args.list c.requires.table)
