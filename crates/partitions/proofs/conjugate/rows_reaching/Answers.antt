use Rattle.std.proofs.Common.{◌-◌, arith}
use Rattle.sym_model.proofs.Conjugates.{count_from-most, count_from-least}
use Rattle.partitions.proofs.conjugate.rows_reaching.Goals as goal

pub loop-rows-preserved : goal.loop-rows-preserved
loop-rows-preserved c = (
  omega arith,
  count_from-most c.args.least c.args.parts.now (c.loop-rows.rows - 1)
      c.requires.falls c.if-parts-rows.true,
)

pub returns-else-parts-rows : goal.returns-else-parts-rows
returns-else-parts-rows c =
    let least = count_from-least c.args.least c.args.parts.now (c.loop-rows.rows - 1)
    c.requires.falls (omega arith) c.if-parts-rows.false in
    omega arith
