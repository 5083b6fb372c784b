use Rattle.std.proofs.Common.{rules}
use Rattle.sym_model.specs.Expression.{sum}
use Rattle.basis_expand.proofs.Making.{done, failed}
use Rattle.basis_expand.specs.Operands.{IsOperand, MayBeRefused}
use Rattle.basis_expand.proofs.Expressions.{sum-list}
use Rattle.basis_expand.proofs.schurs_target.SchursTarget.added.Goals as goal

pub returns-in_err-first : goal.returns-in_err-first
returns-in_err-first c e f t h k = search (rules, failed)

pub returns-in_err-second : goal.returns-in_err-second
returns-in_err-second c e f t h k = search (rules, failed)

pub returns-in_err-list : goal.returns-in_err-list
returns-in_err-list c e f t h k = search (rules, failed)

pub returns : goal.returns
returns c e f t h k =
    done IsOperand MayBeRefused (sum e f) _
    (sum-list e f c.in_ok-first.first c.in_ok-second.second c.in_ok-list.list t.plain.0 t.plain.1
    c.sum_of.ensures.tables.0 c.sum_of.ensures.tables.1
    c.in_ok-list.ensures.table c.in_ok-list.ensures.sum (c.in_ok-first.ensures e h)
    (c.in_ok-second.ensures f k))
