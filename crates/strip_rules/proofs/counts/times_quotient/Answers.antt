use Rattle.std.proofs.Common.{rules}
use Rattle.strip_rules.proofs.DivisionSteps.{in_parts}
use Rattle.strip_rules.proofs.counts.times_quotient.Goals as goal

pub returns-in_err-most : goal.returns-in_err-most
returns-in_err-most c = search (rules, in_parts)

pub returns : goal.returns
returns c = search (rules, in_parts)
