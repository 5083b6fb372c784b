use Rattle.std.proofs.Common.{arith}
use Rattle.skew_shapes.specs.Rows.{number_in}
use Rattle.skew_shapes.proofs.CellReadings.{pushed-column}
use Rattle.skew_shapes.proofs.places.push_columns.Goals as goal

pub loop-column-preserved : goal.loop-column-preserved
loop-column-preserved c = record {
  within = omega (arith, c.loop-column.invariant.within);
  letters =
      pushed-column (number_in c.args.starts.now c.args.numbers.now) c.args.outer.now c.args.inner.now
      c.args.letters.now.items
      c.loop-column.letters.items c.push_column.new.letters.items c.loop-column.column (omega arith)
      c.loop-column.invariant.within
      c.loop-column.invariant.letters c.in_ok-push_column.ensures;
}
