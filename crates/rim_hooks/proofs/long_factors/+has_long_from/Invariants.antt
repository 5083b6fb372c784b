use Rattle.std.proofs.Common.{◌-◌, length}
use Rattle.rim_hooks.proofs.long_factors.+has_long_from.Given as goal

abbrev pub decreases-has_long_from : goal.decreases-has_long_from
decreases-has_long_from l = length l.factors.now - l.at
