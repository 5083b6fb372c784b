use Rattle.std.proofs.Common.{length}
use Rattle.basis_expand.proofs.monomial_atoms.+over_parts.Given as goal

abbrev pub decreases-over_parts : goal.decreases-over_parts
decreases-over_parts l = length l.parts.now
