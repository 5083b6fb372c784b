use Rattle.std.proofs.Common.{rules}
use Rattle.sym_model.specs.Expression.{product}
use Rattle.basis_expand.proofs.Making.{done, failed}
use Rattle.basis_expand.specs.Operands.{IsOperand, MayBeRefused}
use Rattle.basis_expand.proofs.schurs_target.SchursTarget.multiplied.Goals as goal

pub returns-in_err-list : goal.returns-in_err-list
returns-in_err-list c e f t h k = search (rules, failed)

pub returns : goal.returns
returns c e f t h k = done IsOperand MayBeRefused (product e f) _ (c.in_ok-list.ensures e f h k)
