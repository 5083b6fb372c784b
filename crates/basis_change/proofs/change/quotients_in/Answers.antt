use Rattle.std.proofs.Common.{ap, Err, rules}
use Rattle.linear_combinations.proofs.Steps.{error_is, if_answered}
use Rattle.basis_change.proofs.change.quotients_in.Goals as goal

pub returns-in_err-answer-clause-large : goal.returns-in_err-answer-clause-large
returns-in_err-answer-clause-large c err =
    c.in_err-answer.ensures.large (ap Err (error_is _ _ _ c.from_residual.ensures.1 err))

pub returns-clause-value : goal.returns-clause-value
returns-clause-value c = search (rules, if_answered)

pub returns-clause-large : goal.returns-clause-large
returns-clause-large c err = absurd (c.divided.ensures.small err)
