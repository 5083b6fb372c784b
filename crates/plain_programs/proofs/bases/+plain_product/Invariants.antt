use Rattle.std.proofs.Common.{length}
use Rattle.plain_programs.proofs.bases.+plain_product.Given as goal

abbrev pub decreases-plain_product : goal.decreases-plain_product
decreases-plain_product l = length l.parts.now
