use Rattle.product_laws.proofs.OneReduction.{one_rim_hook_sum, one_alcove_sum}
use Rattle.product_laws.proofs.reductions.one_reduction_law.Goals as goal

pub returns-clause-rim_hooks : goal.returns-clause-rim_hooks
returns-clause-rim_hooks c = one_rim_hook_sum

pub returns-clause-fusion : goal.returns-clause-fusion
returns-clause-fusion c = one_alcove_sum
