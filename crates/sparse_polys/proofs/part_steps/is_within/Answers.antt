use Rattle.std.proofs.Common.{rules}
use Rattle.sparse_polys.proofs.StepWays.{first-above}
use Rattle.sparse_polys.proofs.part_steps.is_within.Goals as goal

pub returns-in-Some : goal.returns-in-Some
returns-in-Some c = search (rules, first-above)
