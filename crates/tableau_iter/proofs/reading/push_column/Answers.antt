use Rattle.std.proofs.Common.{map, sym, ◌∙◌}
use Rattle.skew_shapes.proofs.CellReadings.{pushed-passed, pushed-reached}
use Rattle.tableau_iter.specs.ReadRows.{letter_in_rows}
use Rattle.tableau_iter.proofs.reading.push_column.Goals as goal

pub loop-row-preserved-then-not-has_cell : goal.loop-row-preserved-then-not-has_cell
loop-row-preserved-then-not-has_cell c =
    pushed-passed (letter_in_rows c.args.inner.now (map (λ r. r.items) c.args.rows.now)) c.args.outer.now
    c.args.inner.now c.args.letters.now.items c.loop-row.letters.items
    c.args.column c.loop-row.row (sym c.has_cell.ensures ∙ c.if-not-has_cell.true)
    c.loop-row.invariant

pub loop-row-preserved : goal.loop-row-preserved
loop-row-preserved c =
    pushed-reached (letter_in_rows c.args.inner.now (map (λ r. r.items) c.args.rows.now)) c.args.outer.now
    c.args.inner.now c.args.letters.now.items c.loop-row.letters.items
    c.push.new.self.items c.args.column c.loop-row.row _
    (sym c.has_cell.ensures ∙ c.if-not-has_cell.false) c.loop-row.invariant
    c.cell.ensures c.in_ok-push.ensures.items
