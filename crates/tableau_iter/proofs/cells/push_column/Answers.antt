use Rattle.std.proofs.Common.{cond}
use Rattle.std.proofs.Common.{sym, ◌∙◌}
use Rattle.skew_shapes.proofs.CellReadings.{pushed-passed, pushed-reached}
use Rattle.tableau_iter.proofs.cells.push_column.Goals as goal

pub loop-row-preserved-then-not-has_cell : goal.loop-row-preserved-then-not-has_cell
loop-row-preserved-then-not-has_cell c =
    pushed-passed (λ i j. cond c.args.of_row i j) c.args.outer.now c.args.inner.now
    c.args.numbers.now.items c.loop-row.numbers.items
    c.args.column c.loop-row.row (sym c.has_cell.ensures ∙ c.if-not-has_cell.true)
    c.loop-row.invariant

pub loop-row-preserved : goal.loop-row-preserved
loop-row-preserved c =
    pushed-reached (λ i j. cond c.args.of_row i j) c.args.outer.now c.args.inner.now
    c.args.numbers.now.items c.loop-row.numbers.items
    c.push.new.self.items c.args.column c.loop-row.row _
    (sym c.has_cell.ensures ∙ c.if-not-has_cell.false) c.loop-row.invariant
    c.chosen.ensures c.in_ok-push.ensures.items
