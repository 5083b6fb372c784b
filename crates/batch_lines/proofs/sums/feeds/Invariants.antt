use Rattle.std.proofs.Common.{◌≡◌, ◌≤◌, take}
use Rattle.sym_model.specs.Schur.{times_in}
use Rattle.batch_lines.proofs.sums.feeds.Given as goal

abbrev pub invariant-loop-at : goal.invariant-loop-at
invariant-loop-at l = (l.count ≡ times_in 10 (take l.at l.fn.bytes)) × (l.count ≤ l.at)
