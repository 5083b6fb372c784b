use Rattle.std.proofs.Common.{◌-◌, rules}
use Rattle.rim_hooks.proofs.AlcoveFacts.{raised_low, raised_high}
use Rattle.rim_hooks.proofs.reflections.raised.Goals as goal

pub returns-then-lowest-start : goal.returns-then-lowest-start
returns-then-lowest-start c = search (rules, raised_low)

pub returns-else-lowest-start : goal.returns-else-lowest-start
returns-else-lowest-start c = search (rules, raised_high)
