-- Removing the fixed letters at the end of the first `len` letters gives the same list as removing those at the end of all 32 letters. A letter is
-- *fixed* if it is equal to its place.
use Rattle.std.proofs.Common.{◌≡◌, ◌≤◌, take}
use Rattle.sym_model.specs.Permutation.{kept}
use Rattle.monk_product.proofs.short_perm.ShortPerm.len.Given as goal

abbrev pub invariant-loop-len : goal.invariant-loop-len
invariant-loop-len l = (1 ≤ l.len) × (l.len ≤ 32)
    × (kept (take l.len l.self-inside.letters) ≡ kept l.self-inside.letters)

abbrev pub decreases-loop-len : goal.decreases-loop-len
decreases-loop-len l = l.len
