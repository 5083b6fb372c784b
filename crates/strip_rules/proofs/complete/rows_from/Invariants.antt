-- Loop invariant of the function `rows_from`, which counts the rows of length at least v: the rows visited so far have such a length.
use Rattle.std.proofs.Common.{◌-◌, ◌≤◌, length}
use Rattle.sym_model.specs.Conjugate.{count_from}
use Rattle.strip_rules.proofs.complete.rows_from.Given as goal

abbrev pub invariant-loop-count : goal.invariant-loop-count
invariant-loop-count l = (l.count ≤ length l.rows) × (l.count ≤ count_from l.v l.rows)

abbrev pub decreases-loop-count : goal.decreases-loop-count
decreases-loop-count l = length l.rows - l.count
