use Rattle.std.proofs.Common.{rules}
use Rattle.rim_hooks.proofs.ReducedProducts.{few_at}
use Rattle.rim_hooks.proofs.rotated_factors.are_light.Goals as goal

pub beta-requires-clause-rows : goal.beta-requires-clause-rows
beta-requires-clause-rows c = search (rules, few_at)
