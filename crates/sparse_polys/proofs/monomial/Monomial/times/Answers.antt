use Rattle.std.proofs.Common.{rules}
use Rattle.sparse_polys.proofs.Joining.{HasDegree-join}
use Rattle.sparse_polys.proofs.monomial.Monomial.times.Goals as goal

pub invariant_of-result : goal.invariant_of-result
invariant_of-result c = search (rules, HasDegree-join)
