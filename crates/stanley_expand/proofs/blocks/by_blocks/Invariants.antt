use Rattle.std.proofs.Common.{◌-◌, length, take}
use Rattle.sym_model.specs.Stanley.{stanley_in}
use Rattle.stanley_expand.specs.Blocks.{IsEnd, IsSumFor}
use Rattle.stanley_expand.proofs.blocks.by_blocks.Given as goal

-- a block ends at the place `from`, and `sum` is the Stanley polynomial of the letters up to there
abbrev pub invariant-loop-from : goal.invariant-loop-from
invariant-loop-from l = record {
  end : IsEnd l.perm l.from;
  sum : IsSumFor l.rows (stanley_in (take l.from l.perm) l.rows) l.sum;
}

abbrev pub decreases-loop-from : goal.decreases-loop-from
decreases-loop-from l = length l.perm - l.from
