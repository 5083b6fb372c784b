use Rattle.std.proofs.Common.{rules}
use Rattle.lr_product.proofs.CountedStates.{state_pushed}
use Rattle.lr_product.proofs.states.States.push.Goals as goal

pub returns-clause-entries : goal.returns-clause-entries
returns-clause-entries c = search (rules, state_pushed)
