-- At most `rows` parts are greater than or equal to `least`.
use Rattle.std.proofs.Common.{◌≤◌, length}
use Rattle.sym_model.specs.Conjugate.{count_from}
use Rattle.partitions.proofs.conjugate.rows_reaching.Given as goal

abbrev pub invariant-loop-rows : goal.invariant-loop-rows
invariant-loop-rows l = (l.rows ≤ length l.parts) × (count_from l.least l.parts ≤ l.rows)

abbrev pub decreases-loop-rows : goal.decreases-loop-rows
decreases-loop-rows l = l.rows
