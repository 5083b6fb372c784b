use Rattle.std.proofs.Common.{arith}
use Rattle.partitions.proofs.Parts.{size-take_more}
use Rattle.partitions.proofs.lists.sum_of_numbers.Goals as goal

pub loop-number-preserved : goal.loop-number-preserved
loop-number-preserved c =
    let i = c.loop-number.number-index in
    let more = size-take_more c.args.numbers.now i (omega arith) in
    let small = c.type_inv.numbers i in
    (omega arith, omega arith)
