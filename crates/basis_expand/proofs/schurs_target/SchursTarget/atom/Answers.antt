use Rattle.std.proofs.Common.{rules}
use Rattle.basis_expand.proofs.Making.{done, failed}
use Rattle.basis_expand.proofs.schurs_target.SchursTarget.atom.Goals as goal

pub returns-in_err-label : goal.returns-in_err-label
returns-in_err-label c = search (rules, failed)

pub returns : goal.returns
returns c = search (rules, done)
