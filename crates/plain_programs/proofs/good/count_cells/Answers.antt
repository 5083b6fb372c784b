use Rattle.std.proofs.Common.{◌+◌, ◌≤◌, length, arith}
use Rattle.plain_programs.proofs.Cells.{cells_to_within}
use Rattle.sym_model.proofs.Cells.{cells_to-more}
use Rattle.plain_programs.proofs.good.count_cells.Goals as goal

pub overflow_add-count : goal.overflow_add-count
overflow_add-count c =
    let outer = c.args.outer.now in
    let inner = c.args.inner.now in
    let within : c.loop-i.i + 1 ≤ length outer = omega arith in
    let more = cells_to-more outer inner c.loop-i.i in
    let bound = cells_to_within outer inner (c.loop-i.i + 1) within in
    omega (arith, more, bound)

pub loop-i-preserved : goal.loop-i-preserved
loop-i-preserved c =
    let more = cells_to-more c.args.outer.now c.args.inner.now c.loop-i.i in
    omega (arith, more)
