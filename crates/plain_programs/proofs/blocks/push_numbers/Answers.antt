use Rattle.std.proofs.Common.{arith}
use Rattle.plain_programs.proofs.PlainTexts.{first_written}
use Rattle.plain_programs.proofs.blocks.push_numbers.Goals as goal

pub loop-number-init : goal.loop-number-init
loop-number-init c =
    first_written _ _ c.args.numbers.now (omega arith) c.in_ok-write.ensures.bytes
