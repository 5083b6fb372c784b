use Rattle.std.proofs.Common.{rules}
use Rattle.std.proofs.lemmas.Option.{slice_get_within}
use Rattle.rim_hooks.proofs.FactorSteps.{factor_at, long_here}
use Rattle.rim_hooks.proofs.long_factors.+has_long_from.Goals as goal

pub returns-then-rows-k-clause-long : goal.returns-then-rows-k-clause-long
returns-then-rows-k-clause-long t c = search (rules, long_here, factor_at)

pub has_long_from-requires : goal.has_long_from-requires
has_long_from-requires t c = search (rules, slice_get_within)
