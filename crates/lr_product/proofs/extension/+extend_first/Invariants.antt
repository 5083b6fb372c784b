use Rattle.std.proofs.Common.{length}
use Rattle.lr_product.proofs.extension.+extend_first.Given as goal

abbrev pub decreases-extend_first : goal.decreases-extend_first
decreases-extend_first l = length l.line.now
