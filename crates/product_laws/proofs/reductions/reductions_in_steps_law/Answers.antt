use Rattle.std.proofs.Common.{rules}
use Rattle.product_laws.proofs.FusionSteps.{fusion_steps_collect, fusion_steps_meet}
use Rattle.product_laws.proofs.FusionSteps.{fusion_in_steps}
use Rattle.product_laws.proofs.QuantumSteps.{quantum_steps_collect, quantum_steps_meet}
use Rattle.product_laws.proofs.QuantumSteps.{rim_hooks_in_steps}
use Rattle.product_laws.proofs.reductions.reductions_in_steps_law.Goals as goal

pub returns-clause-rim_hooks : goal.returns-clause-rim_hooks
returns-clause-rim_hooks c k n factors terms h l p =
    search (rules, quantum_steps_collect, quantum_steps_meet, rim_hooks_in_steps)

pub returns-clause-fusion : goal.returns-clause-fusion
returns-clause-fusion c k n factors terms h l p =
    search (rules, fusion_steps_collect, fusion_steps_meet, fusion_in_steps)
