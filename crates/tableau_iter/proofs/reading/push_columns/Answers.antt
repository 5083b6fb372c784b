use Rattle.std.proofs.Common.{map, arith}
use Rattle.skew_shapes.proofs.CellReadings.{pushed-column}
use Rattle.tableau_iter.specs.ReadRows.{letter_in_rows}
use Rattle.tableau_iter.proofs.reading.push_columns.Goals as goal

pub loop-column-preserved : goal.loop-column-preserved
loop-column-preserved c = record {
  within = omega (arith, c.loop-column.invariant.within);
  letters =
      pushed-column (letter_in_rows c.args.inner.now (map (λ r. r.items) c.args.rows.now))
      c.args.outer.now c.args.inner.now c.args.letters.now.items
      c.loop-column.letters.items c.push_column.new.letters.items c.loop-column.column (omega arith)
      c.loop-column.invariant.within
      c.loop-column.invariant.letters c.in_ok-push_column.ensures;
}
