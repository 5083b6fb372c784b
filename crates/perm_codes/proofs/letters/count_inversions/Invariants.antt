-- The count so far plus the number of inversions of the letters from the current place on is the number of all inversions.
use Rattle.std.proofs.Common.{◌≡◌, ◌+◌, ◌*◌, ◌≤◌, drop}
use Rattle.sym_model.specs.PlaceOrders.{inversions}
use Rattle.perm_codes.proofs.letters.count_inversions.Given as goal

abbrev pub invariant-loop-i : goal.invariant-loop-i
invariant-loop-i l = (l.count ≤ 255 * l.i) × (l.count + inversions (drop l.i l.letters) ≡ inversions l.letters)
