use Rattle.expand_in_families.proofs.HookShapes.{hook_rest, hook_number}
use Rattle.expand_in_families.proofs.HookHeights.{hook_height}
use Rattle.expand_in_families.proofs.HookSums.{complete_sum, elementary_sum}
use Rattle.expand_in_families.proofs.hook_expansions.special_hooks_law.Goals as goal

pub returns-clause-complete : goal.returns-clause-complete
returns-clause-complete c = complete_sum

pub returns-clause-elementary : goal.returns-clause-elementary
returns-clause-elementary c = elementary_sum

pub returns-clause-shapes : goal.returns-clause-shapes
returns-clause-shapes c parts h p m = let r = hook_rest parts h p m in
    (r.partition, r.some, r.sized)

pub returns-clause-rim_hooks : goal.returns-clause-rim_hooks
returns-clause-rim_hooks c parts h p m = let r = hook_height parts h p m in
    (r.0, (hook_rest parts h p m).fewer, r.1)

pub returns-clause-number : goal.returns-clause-number
returns-clause-number c = hook_number
