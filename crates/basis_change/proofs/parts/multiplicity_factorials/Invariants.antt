use Rattle.std.proofs.Common.{◌≡◌, ◌*◌, drop}
use Rattle.basis_change_laws.specs.AugmentedMonomial.{multiplicity_factorials}
use Rattle.basis_change.proofs.parts.multiplicity_factorials.Given as goal

abbrev pub invariant-loop-at : goal.invariant-loop-at
invariant-loop-at l = l.product * multiplicity_factorials (drop l.at l.parts) ≡ multiplicity_factorials l.parts
