use Rattle.std.proofs.Common.{subst, to_z-of_z, rules}
use Rattle.std.specs.Prelude.{nat_abs}
use Rattle.sym_model.specs.Expression.{fraction}
use Rattle.basis_expand.proofs.Making.{done, failed}
use Rattle.basis_expand.specs.Operands.{IsOperand, MayBeRefused}
use Rattle.basis_expand.specs.SchurLists.{StandsFor}
use Rattle.basis_expand.proofs.schurs_target.SchursTarget.quotient.Goals as goal

pub returns-in_err-list-clause-number : goal.returns-in_err-list-clause-number
returns-in_err-list-clause-number c one = search (rules, failed)

pub returns-in_err-list-clause-fraction : goal.returns-in_err-list-clause-fraction
returns-in_err-list-clause-fraction c = search (rules, failed)

pub returns-clause-number : goal.returns-clause-number
returns-clause-number c one =
    done IsOperand MayBeRefused _ _
    (subst (λ d. StandsFor (fraction (nat_abs c.args.num) d) c.in_ok-list.list) one
    (subst (λ z. StandsFor (fraction (nat_abs z) c.args.den) c.in_ok-list.list)
    (to_z-of_z c.ranges.num) c.in_ok-list.ensures))

pub returns-clause-fraction : goal.returns-clause-fraction
returns-clause-fraction c =
    done IsOperand MayBeRefused _ _
    (subst (λ z. StandsFor (fraction (nat_abs z) c.args.den) c.in_ok-list.list)
    (to_z-of_z c.ranges.num) c.in_ok-list.ensures)
