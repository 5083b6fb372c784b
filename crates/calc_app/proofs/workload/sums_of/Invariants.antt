use Rattle.calc_app.proofs.WorkSums.{SoFar}
use Rattle.calc_app.proofs.workload.sums_of.Given as goal

abbrev pub invariant-loop-index : goal.invariant-loop-index
invariant-loop-index l = SoFar l.fn.lines l.fn.seed l._index l.state l.sums
