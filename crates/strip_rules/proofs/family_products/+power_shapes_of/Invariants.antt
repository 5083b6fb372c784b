use Rattle.std.proofs.Common.{length}
use Rattle.strip_rules.proofs.family_products.+power_shapes_of.Given as goal

abbrev pub decreases-power_shapes_of : goal.decreases-power_shapes_of
decreases-power_shapes_of l = length l.parts.now
