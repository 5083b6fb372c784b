use Rattle.std.proofs.Common.{get_or, ap}
use Rattle.std.proofs.Common.{sym, ◌∙◌}
use Rattle.skew_shapes.specs.Rows.{number_in}
use Rattle.skew_shapes.proofs.CellReadings.{pushed-passed, pushed-reached}
use Rattle.skew_shapes.proofs.places.push_column.Goals as goal

pub loop-row-preserved-then-not-has_cell : goal.loop-row-preserved-then-not-has_cell
loop-row-preserved-then-not-has_cell c =
    pushed-passed (number_in c.args.starts.now c.args.numbers.now) c.args.outer.now c.args.inner.now
    c.args.letters.now.items c.loop-row.letters.items
    c.args.column c.loop-row.row (sym c.has_cell.ensures ∙ c.if-not-has_cell.true)
    c.loop-row.invariant

pub loop-row-preserved : goal.loop-row-preserved
loop-row-preserved c =
    pushed-reached (number_in c.args.starts.now c.args.numbers.now) c.args.outer.now c.args.inner.now
    c.args.letters.now.items c.loop-row.letters.items
    c.push.new.self.items c.args.column c.loop-row.row _
    (sym c.has_cell.ensures ∙ c.if-not-has_cell.false) c.loop-row.invariant
    (ap (λ n. get_or c.args.numbers.now n 0) c.place.ensures) c.in_ok-push.ensures.items
