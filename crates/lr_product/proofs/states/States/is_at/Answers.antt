use Rattle.std.proofs.Common.{rules}
use Rattle.std.proofs.lemmas.Slice.Eq.{bytes_eq-Decides}
use Rattle.lr_product.proofs.CountedStates.{state_of_entry}
use Rattle.lr_product.proofs.states.States.is_at.Goals as goal

pub returns-then-at-len-clause-state : goal.returns-then-at-len-clause-state
returns-then-at-len-clause-state c h = search (rules, bytes_eq-Decides, state_of_entry)
