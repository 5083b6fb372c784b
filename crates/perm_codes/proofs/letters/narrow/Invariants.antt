-- The list has the letters visited so far, and its capacity suffices for the remaining letters.
use Rattle.std.proofs.Common.{◌≡◌, ◌-◌, length, take}
use Rattle.smallvec.specs.SmallVec.{HasRoomFor}
use Rattle.perm_codes.proofs.letters.narrow.Given as goal

abbrev pub invariant-loop-letter : goal.invariant-loop-letter
invariant-loop-letter l =
    (l.list.items ≡ take l.letter-index l.letters) × HasRoomFor l.list (length l.letters - l.letter-index)
