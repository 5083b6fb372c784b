use Rattle.std.proofs.Common.{rules}
use Rattle.rim_hooks.proofs.AnyReductions.{any_reductions, any_step_reductions}
use Rattle.rim_hooks.proofs.removal_orders.removal_order_law.Goals as goal

pub returns-clause-whole : goal.returns-clause-whole
returns-clause-whole c k n factors terms reductions h a = search (rules, any_reductions)

pub returns-clause-step : goal.returns-clause-step
returns-clause-step c k n factor terms next reductions h a = search (rules, any_step_reductions)
