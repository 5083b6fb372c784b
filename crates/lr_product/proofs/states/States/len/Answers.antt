use Rattle.std.proofs.Common.{rules}
use Rattle.lr_product.proofs.CountedStates.{entries_length}
use Rattle.lr_product.proofs.states.States.len.Goals as goal

pub returns-clause-count : goal.returns-clause-count
returns-clause-count c = search (rules, entries_length)
