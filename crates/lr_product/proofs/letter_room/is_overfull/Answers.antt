use Rattle.std.proofs.Common.{rules}
use Rattle.lr_product.proofs.NoRoom.{letters_next, enough_next}
use Rattle.lr_product.proofs.letter_room.is_overfull.Goals as goal

pub returns-then-room_up_to-letters : goal.returns-then-room_up_to-letters
returns-then-room_up_to-letters c = search (rules, letters_next)

pub loop-at-preserved : goal.loop-at-preserved
loop-at-preserved c = search (rules, letters_next, enough_next)
