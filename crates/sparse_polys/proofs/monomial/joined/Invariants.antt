use Rattle.std.proofs.Common.{◌≡◌, take}
use Rattle.sym_model.specs.Polynomial.{join}
use Rattle.sparse_polys.proofs.monomial.joined.Given as goal

-- the list has the sums of the exponents at the indices visited so far
abbrev pub invariant-loop-at : goal.invariant-loop-at
invariant-loop-at l = l.sums.items ≡ take l.at (join l.first l.second)
