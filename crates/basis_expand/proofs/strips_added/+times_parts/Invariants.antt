use Rattle.std.proofs.Common.{length}
use Rattle.basis_expand.proofs.strips_added.+times_parts.Given as goal

abbrev pub decreases-times_parts : goal.decreases-times_parts
decreases-times_parts l = length l.parts.now
