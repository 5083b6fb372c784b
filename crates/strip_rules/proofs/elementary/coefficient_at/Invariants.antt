use Rattle.strip_rules.proofs.ColumnRows.{IsCounted}
use Rattle.strip_rules.proofs.elementary.coefficient_at.Given as goal

-- before the row with the index `at`, counted from 0, the numbers `count`, `run` and `longer` satisfy `IsCounted`
abbrev pub invariant-loop-at : goal.invariant-loop-at
invariant-loop-at l = IsCounted l.inner l.outer l.at l.count l.run l.longer
