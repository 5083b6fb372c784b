use Rattle.std.proofs.Common.{arith}
use Rattle.row_insertion.proofs.ShrinkingRows.{at_end}
use Rattle.row_insertion.proofs.shrinking.last_of.Goals as goal

pub returns : goal.returns
returns c = at_end c.args.row.now 0 (omega (arith, c.in-len1-up.len_at_least))
