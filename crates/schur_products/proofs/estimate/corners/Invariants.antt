use Rattle.std.proofs.Common.{◌≤◌}
use Rattle.schur_products.proofs.estimate.corners.Given as goal

abbrev pub invariant-loop-at : goal.invariant-loop-at
invariant-loop-at l = l.count ≤ l.at
