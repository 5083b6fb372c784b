use Rattle.std.proofs.Common.{rules}
use Rattle.lr_product.proofs.NoRoom.{room_next}
use Rattle.lr_product.proofs.letter_room.room_up_to.Goals as goal

pub loop-row-preserved : goal.loop-row-preserved
loop-row-preserved c = search (rules, room_next)
