use Rattle.std.proofs.Common.{◌≡◌, ℕ, ◌*◌, ◌≤◌, length}
use Rattle.lr_product.specs.LetterRoom.{letter_room, letters_within}
use Rattle.lr_product.proofs.letter_room.is_overfull.Given as goal

abbrev pub invariant-loop-at : goal.invariant-loop-at
invariant-loop-at l = record {
  end : l.at-end ≡ length l.content;
  sum : l.letters ≡ letters_within l.content l.at;
  most : l.letters ≤ l.at * 65535;
  enough : (k : ℕ) → k ≤ l.at → letters_within l.content k ≤ letter_room k l.outer l.inner (length l.outer);
}
