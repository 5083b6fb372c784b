use Rattle.sym_model.specs.Partition.{size}
use Rattle.plain_programs.proofs.removals.+plain_core.Given as goal

abbrev pub decreases-plain_core : goal.decreases-plain_core
decreases-plain_core l = size l.shape.now
