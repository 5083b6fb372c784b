use Rattle.std.proofs.Common.{◌≡◌, ◌*◌, ◌≤◌, length}
use Rattle.lr_product.specs.LetterRoom.{letter_room}
use Rattle.lr_product.proofs.letter_room.room_up_to.Given as goal

abbrev pub invariant-loop-row : goal.invariant-loop-row
invariant-loop-row l = record {
  end : l.row-end ≡ length l.outer;
  sum : l.room ≡ letter_room l.k l.outer l.inner l.row;
  most : l.room ≤ l.row * 65535;
}
