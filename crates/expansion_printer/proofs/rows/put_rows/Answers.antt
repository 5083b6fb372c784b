use Rattle.std.proofs.Common.{◌≡◌, ◌<◌, ◌+◌, ap, ◌∙◌, arith}
use Rattle.std.specs.Prelude.{codes}
use Rattle.expansion_printer.proofs.GatheringLaws.{Gathers-then, Gathers-as, Gathers-nothing}
use Rattle.sym_model.specs.Partition.{rows}
use Rattle.sym_model.specs.TableauText.{row_text, tableau_text}
use Rattle.skew_shapes.specs.Rows.{row_by}
use Rattle.expansion_printer.proofs.RowTexts.{pieces-more, tableau_text-some}
use Rattle.expansion_printer.proofs.rows.put_rows.Goals as goal

pub loop-at-init : goal.loop-at-init
loop-at-init g c = Gathers-nothing c.args.text.now (g.K.Sink.seen c.args.sink.now)

pub loop-at-preserved : goal.loop-at-preserved
loop-at-preserved g c =
    let filling = c.args.filling.now in
    let next : c.loop-at.at + 1 ≡ 0 + c.loop-at.at + 1 = omega arith in
    Gathers-as (pieces-more (codes " / ") (λ row. row_text (row_by (g.E.Entries.entry filling)
    (g.E.Entries.outer filling) (g.E.Entries.inner filling) row)) 0 c.loop-at.at
    (c.loop-at.at + 1) next)
    (Gathers-then c.loop-at.invariant c.put_next_row.ensures)

pub returns : goal.returns
returns g c =
    let filling = c.args.filling.now in
    let outer = g.E.Entries.outer filling in
    let count : c.rows-rows.result ≡ rows outer = cc in
    let all : c.loop-at.at ≡ rows outer = omega arith in
    let some : 0 < c.loop-at.at = omega arith in
    Gathers-as (tableau_text-some (g.E.Entries.entry filling) outer (g.E.Entries.inner filling)
    c.loop-at.at all some
    ∙ ap tableau_text cc) c.loop-at.invariant
