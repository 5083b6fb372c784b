use Rattle.std.proofs.Common.{length}
use Rattle.strip_rules.proofs.family_products.+shapes_of.Given as goal

abbrev pub decreases-shapes_of : goal.decreases-shapes_of
decreases-shapes_of l = length l.parts.now
