use Rattle.std.proofs.Common.{rules}
use Rattle.std.proofs.lemmas.Option.{slice_get_read}
use Rattle.sparse_polys.proofs.StateWays.{ways-append, ways-more}
use Rattle.sparse_polys.proofs.StatesLeft.{LeaveOnce-set, LeaveOnce-append}
use Rattle.sparse_polys.proofs.states.add_state.Goals as goal

pub returns-in-Some-clause-ways : goal.returns-in-Some-clause-ways
returns-in-Some-clause-ways c ν = search (rules, slice_get_read, ways-more)

pub returns-in-Some-clause-once : goal.returns-in-Some-clause-once
returns-in-Some-clause-once c = search (rules, LeaveOnce-set)

pub returns-in_ok-push-clause-once : goal.returns-in_ok-push-clause-once
returns-in_ok-push-clause-once c once = search (rules, LeaveOnce-append)

pub returns-in_ok-push-clause-ways : goal.returns-in_ok-push-clause-ways
returns-in_ok-push-clause-ways c ν = search (rules, ways-append)
