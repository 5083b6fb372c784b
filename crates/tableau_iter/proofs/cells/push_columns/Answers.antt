use Rattle.std.proofs.Common.{cond}
use Rattle.std.proofs.Common.{arith}
use Rattle.skew_shapes.proofs.CellReadings.{pushed-column}
use Rattle.tableau_iter.proofs.cells.push_columns.Goals as goal

pub loop-column-preserved : goal.loop-column-preserved
loop-column-preserved c = record {
  within = omega (arith, c.loop-column.invariant.within);
  numbers =
      pushed-column (λ i j. cond c.args.of_row i j) c.args.outer.now c.args.inner.now
      c.args.numbers.now.items
      c.loop-column.numbers.items c.push_column.new.numbers.items c.loop-column.column (omega arith)
      c.loop-column.invariant.within
      c.loop-column.invariant.numbers c.in_ok-push_column.ensures;
}
