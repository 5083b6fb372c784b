-- The first `at` letters of the buffer are the first `at` letters of the permutation.
use Rattle.std.proofs.Common.{◌≡◌, length, take}
use Rattle.monk_product.proofs.short_perm.ShortPerm.perm.Given as goal

abbrev pub invariant-loop-at : goal.invariant-loop-at
invariant-loop-at l = (length l.letters ≡ 32) × (take l.at l.letters ≡ take l.at l.letter-items)
