use Rattle.std.proofs.Common.{◌≡◌}
use Rattle.sym_model.specs.Weight.{factorial}
use Rattle.coeff_rings.proofs.products.factorial.Given as goal

abbrev pub invariant-loop-k : goal.invariant-loop-k
invariant-loop-k l = l.product ≡ factorial l.k
