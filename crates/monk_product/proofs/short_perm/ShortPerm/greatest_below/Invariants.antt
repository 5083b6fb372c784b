use Rattle.std.proofs.Common.{take}
use Rattle.monk_product.specs.ShortPerms.{IsGreatestBelow}
use Rattle.monk_product.proofs.short_perm.ShortPerm.greatest_below.Given as goal

abbrev pub invariant-loop-x : goal.invariant-loop-x
invariant-loop-x l = IsGreatestBelow l.letter (take l.x-index l.x-items) l.low
