-- The first `len` letters and all letters are the same list once the fixed letters at the end are removed; a letter is fixed if it is equal to its
-- place, counted from 1.
use Rattle.std.proofs.Common.{◌≡◌, ◌≤◌, length, take}
use Rattle.sym_model.specs.Permutation.{kept}
use Rattle.perm_codes.proofs.letters.count_kept.Given as goal

abbrev pub invariant-loop-len : goal.invariant-loop-len
invariant-loop-len l = (l.len ≤ length l.letters) × (kept (take l.len l.letters) ≡ kept l.letters)

abbrev pub decreases-loop-len : goal.decreases-loop-len
decreases-loop-len l = l.len
