use Rattle.std.proofs.Common.{rules}
use Rattle.rim_hooks.proofs.TextsInSteps.{quantum_reads-steps, quantum_steps-reads}
use Rattle.rim_hooks.proofs.TextsInSteps.{fusion_reads-steps, fusion_steps-reads}
use Rattle.rim_hooks.proofs.printed_steps.printed_steps_law.Goals as goal

pub returns-clause-quantum : goal.returns-clause-quantum
returns-clause-quantum c k columns factors text some two partitions =
    search (rules, quantum_reads-steps, quantum_steps-reads)

pub returns-clause-fusion : goal.returns-clause-fusion
returns-clause-fusion c k level factors text some two partitions =
    search (rules, fusion_reads-steps, fusion_steps-reads)
